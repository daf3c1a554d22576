use Rattle.prog_map.proofs.Sides.{untrue}
use Rattle.prog_text.proofs.Divided.{second_no_word}
use Rattle.prog_text.proofs.words.two_words.Goals as goal

pub returns-then-not-is_one_word : goal.returns-then-not-is_one_word
returns-then-not-is_one_word c =
    second_no_word _ _ _ c.in_ok-first.ensures (λ word. untrue _ c.if-not-is_one_word.true (c.is_one_word.ensures.1 word))
