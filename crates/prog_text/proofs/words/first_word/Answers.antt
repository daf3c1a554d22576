use Rattle.prog_text.proofs.Divided.{no_first_word}
use Rattle.prog_text.proofs.words.first_word.Goals as goal

pub returns-in_err-word : goal.returns-in_err-word
returns-in_err-word c = rw c.from_residual.ensures (no_first_word _ c.in_err-word.ensures)
