use Rattle.blif_lines.proofs.OneReading.{one_lines, one_next}
use Rattle.blif_lines.proofs.Texts.{line_utf8}
use Rattle.blif_lines.proofs.Wording.{one_words}
use Rattle.blif_lines.proofs.laws.one_reading.Goals as goal

pub returns : goal.returns
returns c = record { lines = one_lines; next = one_next; words = one_words; utf8 = line_utf8 }
