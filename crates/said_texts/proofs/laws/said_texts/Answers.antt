use Rattle.said_texts.proofs.Whole.{statements}
use Rattle.said_texts.proofs.laws.said_texts.Goals as goal

pub returns : goal.returns
returns c = statements c.text_lines.ensures c.text_words.ensures c.keyword_lines.ensures
