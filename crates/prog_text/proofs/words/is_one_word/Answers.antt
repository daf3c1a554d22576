use Rattle.prog_text.proofs.Divided.{not_one_word}
use Rattle.prog_text.proofs.words.is_one_word.Goals as goal

pub returns-in-Some : goal.returns-in-Some
returns-in-Some c = (λ fails. cc, λ word. absurd (not_one_word _ _ _ c.in-Some.ensures word))
