use Rattle.elem_text.proofs.Referred.{word_result}
use Rattle.elem_text.proofs.references.behind_word.Goals as goal

pub returns : goal.returns
returns c = word_result c.args.bytes.now c.args.word.now _ c.strip_prefix.ensures.cases
