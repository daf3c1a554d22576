use Rattle.fasm_text.proofs.Cuts.{untrue}
use Rattle.fasm_text.proofs.Wording.{no_word, two_words, is_empty_true}
use Rattle.fasm_text.proofs.parts.one_word.Goals as goal

pub returns-then-is_empty : goal.returns-then-is_empty
returns-then-is_empty c =
    no_word c.args.text.now c.blanks.result.0.now c.blanks.result.1.now c.filled.result.0.now c.filled.result.1.now c.blanks.ensures c.filled.ensures
    (is_empty_true _ c.is_empty.result c.is_empty.ensures c.if-is_empty.true)

pub returns-then-not-are_blanks : goal.returns-then-not-are_blanks
returns-then-not-are_blanks c =
    two_words c.args.text.now c.blanks.result.0.now c.blanks.result.1.now c.filled.result.0.now c.filled.result.1.now c.blanks.ensures c.filled.ensures
    (λ blank. untrue _ c.if-not-are_blanks.true (c.are_blanks.ensures.1 blank))
