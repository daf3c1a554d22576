use Rattle.std.specs.Str.Lines.{lines}
use Rattle.model_words.proofs.Counting.{few_bytes}
use Rattle.model_words.proofs.Saying.{each_line}
use Rattle.model_words.proofs.laws.word_law.Goals as goal

pub returns : goal.returns
returns c = λ bytes ls are. record { each = each_line c.one_reading.ensures.utf8 1 (lines bytes) ls are; few = few_bytes bytes ls are }
