use Rattle.line_texts.proofs.Reading.{written_lines}
use Rattle.line_texts.proofs.laws.text_lines.Goals as goal

pub returns : goal.returns
returns c = written_lines
