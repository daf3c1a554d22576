use Rattle.std.proofs.Common.{map, take}
use Rattle.meta_lines.specs.Each.{Each}
use Rattle.meta_lines.specs.Features.{IsForm, form_of}
use Rattle.meta_lines.proofs.forms.word_forms.Given as goal

abbrev pub invariant-loop-word : goal.invariant-loop-word
invariant-loop-word l = Each IsForm (map (λ w. w.now) (take l.word-index l.words)) (map form_of l.forms.items)
