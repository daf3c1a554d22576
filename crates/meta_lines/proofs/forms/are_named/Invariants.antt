use Rattle.std.proofs.Common.{map, take}
use Rattle.meta_lines.specs.Features.{AreNamed, form_of}
use Rattle.meta_lines.proofs.forms.are_named.Given as goal

abbrev pub invariant-loop-form : goal.invariant-loop-form
invariant-loop-form l = AreNamed (map form_of (take l.form-index l.forms))
