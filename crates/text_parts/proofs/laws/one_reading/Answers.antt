use Rattle.text_parts.proofs.Spanning.{one_words, one_number}
use Rattle.text_parts.proofs.laws.one_reading.Goals as goal

pub returns-clause-words : goal.returns-clause-words
returns-clause-words c = one_words

pub returns-clause-number : goal.returns-clause-number
returns-clause-number c = one_number
