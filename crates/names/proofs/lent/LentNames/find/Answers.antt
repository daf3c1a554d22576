use Rattle.std.proofs.Common.{None, Some}
use Rattle.names.proofs.TextKeys.{place_found}
use Rattle.names.proofs.lent.LentNames.find.Goals as goal

pub returns-in_err-place : goal.returns-in_err-place
returns-in_err-place c =
    rw (c.from_residual.ensures, ← c.self.view_is)
    (place_found (λ name. name.now) c.self.inside.names.keys c.args.name.now None c.in_err-place.ensures.index)

pub returns : goal.returns
returns c =
    rw (← c.self.view_is)
    (place_found (λ name. name.now) c.self.inside.names.keys c.args.name.now (Some c.in_ok-place.place) c.in_ok-place.ensures.index)
