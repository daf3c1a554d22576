use Rattle.std.proofs.Common.{ℕ, List, ◌≡◌}
use Rattle.meta_parts.specs.Words.{words_of}
use Rattle.meta_parts.specs.Forms.{HasBit}
use Rattle.meta_lines.specs.declared.types.Feature.{Feature}
use Rattle.meta_lines.specs.Features.{form_of}
use Rattle.meta_lines.specs.Muxes.{IsPart}
use Rattle.meta_lines.proofs.Formed.{parted, no_part}
use Rattle.meta_lines.proofs.Listing.{some_says, in_other_words}
use Rattle.meta_lines.proofs.forms.part_form.Goals as goal

pub returns : goal.returns
returns c =
    let part = c.args.part.now in
    let word = c.in-Some.word.now in
    let only = some_says c.in_ok-word.field-0 c.in-Some.word _ _ c.in-Some.is c.in_ok-word.ensures in
    in_other_words c.bit_form.result ((name : List ℕ) (bit : ℕ) → HasBit word name bit → ⊥) ((f : Feature) → IsPart part f → ⊥)
    (λ f. HasBit word f.name.now f.bit × (f.word.now ≡ word)) (λ f. IsPart part (form_of f)) (no_part part word only) (λ f h. parted part word f only h) c.bit_form.ensures
