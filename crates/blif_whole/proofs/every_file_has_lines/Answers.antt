use Rattle.blif_whole.proofs.Lines.{has_lines}
use Rattle.blif_whole.proofs.every_file_has_lines.Goals as goal

pub returns : goal.returns
returns c = has_lines
