use Rattle.std.proofs.Common.{ℕ, List}
use Rattle.meta_parts.specs.Forms.{HasRange}
use Rattle.meta_lines.specs.declared.types.Field.{Field}
use Rattle.meta_lines.specs.Fields.{IsFieldForm, field_said}
use Rattle.meta_lines.proofs.Formed.{fielded, no_field}
use Rattle.meta_lines.proofs.Listing.{some_says, in_other_words}
use Rattle.meta_lines.proofs.fields.field_form.Goals as goal

pub returns : goal.returns
returns c =
    let text = c.args.text.now in
    let word = c.in-Some.word.now in
    let only = some_says c.in_ok-word.field-0 c.in-Some.word _ _ c.in-Some.is c.in_ok-word.ensures in
    in_other_words c.range_form.result ((name : List ℕ) (lo hi : ℕ) → HasRange word name lo hi → ⊥) ((f : Field) → IsFieldForm text f → ⊥)
    (λ f. HasRange word f.name.now f.bits.lo f.bits.hi) (λ f. IsFieldForm text (field_said f)) (no_field text word only) (λ f h. fielded text word f only h) c.range_form.ensures
