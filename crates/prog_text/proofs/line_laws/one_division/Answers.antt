use Rattle.prog_text.proofs.OneLine.{lines_are}
use Rattle.prog_text.proofs.Spoken.{one_words}
use Rattle.prog_text.proofs.line_laws.one_division.Goals as goal

pub returns-clause-lines : goal.returns-clause-lines
returns-clause-lines c = lines_are

pub returns-clause-words : goal.returns-clause-words
returns-clause-words c = one_words
