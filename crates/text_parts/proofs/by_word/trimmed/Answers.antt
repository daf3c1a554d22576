use Rattle.text_parts.proofs.Trimming.{both_cut}
use Rattle.text_parts.proofs.by_word.trimmed.Goals as goal

pub returns : goal.returns
returns c = both_cut c.args.text.now c.white.result.0.now c.white.result.1.now c.without_end.result.now c.white.ensures c.without_end.ensures
