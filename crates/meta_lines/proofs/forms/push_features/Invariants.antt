use Rattle.std.proofs.Common.{◌≡◌, ◌++◌, map, take}
use Rattle.meta_lines.specs.Features.{form_of}
use Rattle.meta_lines.proofs.forms.push_features.Given as goal

abbrev pub invariant-loop-form : goal.invariant-loop-form
invariant-loop-form l = l.features.items ≡ l.initial.features.items ++ map form_of (take l.form-index l.forms)
