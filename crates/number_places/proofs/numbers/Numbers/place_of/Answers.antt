use Rattle.std.proofs.Common.{None, Some}
use Rattle.number_places.proofs.Puts.{found}
use Rattle.number_places.proofs.numbers.Numbers.place_of.Goals as goal

pub returns-in_err-place : goal.returns-in_err-place
returns-in_err-place c =
    rw (c.from_residual.ensures, ← c.self.view_is)
    (found c.self.inside.numbers.keys c.args.number None c.in_err-place.ensures.index)

pub returns : goal.returns
returns c =
    rw (← c.self.view_is)
    (found c.self.inside.numbers.keys c.args.number (Some c.in_ok-place.place) c.in_ok-place.ensures.index)
