use Rattle.blif_elems.proofs.Written.{keywords}
use Rattle.blif_elems.proofs.laws.keyword_lines.Goals as goal

pub returns : goal.returns
returns c = keywords
