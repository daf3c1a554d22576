use Rattle.std.proofs.Common.{ℕ, List}
use Rattle.fasm_text.specs.Fields.{IsField}
use Rattle.fasm_text.specs.Lines.{Giving, HasField}
use Rattle.fasm_text.specs.Read.{IsFieldOf}
use Rattle.fasm_text.proofs.Cuts.{in_other_words}
use Rattle.fasm_text.proofs.Giving.{no_field_word, not_field}
use Rattle.fasm_text.proofs.line.word_of_field.Goals as goal

pub returns-in_err-one_word : goal.returns-in_err-one_word
returns-in_err-one_word c = rw c.from_residual.ensures (no_field_word c.args.text.now c.in_err-one_word.ensures)

pub returns : goal.returns
returns c =
    let word = c.in_ok-one_word.field-0.now in
    in_other_words c.read_field.result ((name : List ℕ) (lo hi : ℕ) → IsField word name lo hi → ⊥) ((g : Giving) → HasField c.args.text.now g → ⊥)
    (λ f. IsField word f.name.now f.range.lo f.range.hi) (λ f. IsFieldOf c.args.text.now f)
    (not_field c.args.text.now word c.in_ok-one_word.ensures) (λ f h. (word, c.in_ok-one_word.ensures, h)) c.read_field.ensures
