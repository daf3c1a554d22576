use Rattle.std.proofs.Common.{map, take}
use Rattle.meta_lines.specs.Each.{Each}
use Rattle.meta_lines.specs.Features.{form_of}
use Rattle.meta_lines.specs.Muxes.{IsPart}
use Rattle.meta_lines.proofs.forms.part_forms.Given as goal

abbrev pub invariant-loop-part : goal.invariant-loop-part
invariant-loop-part l = Each IsPart (map (λ w. w.now) (take l.part-index l.parts)) (map form_of l.forms.items)
