use Rattle.prog_text.proofs.Divided.{rest_no_words}
use Rattle.prog_text.proofs.words.three_words.Goals as goal

pub returns-in_err-second : goal.returns-in_err-second
returns-in_err-second c =
    rw c.from_residual-in_err-second.ensures (rest_no_words _ _ _ c.in_ok-first.ensures (λ a b are. c.in_err-second.ensures a b are))
