use Rattle.std.proofs.Common.{None, string_bytes}
use Rattle.names.proofs.TextKeys.{name_found}
use Rattle.names.proofs.Names.find.Goals as goal

pub returns-in_err-place : goal.returns-in_err-place
returns-in_err-place c =
    rw (c.from_residual.ensures, ← c.self.view_is)
    (name_found string_bytes c.self.inside.names.keys c.args.name.now None c.in_err-place.ensures.index)

pub returns : goal.returns
returns c = rw (← c.self.view_is) (name_found string_bytes c.self.inside.names.keys c.args.name.now _ c.in_ok-place.ensures.index)
