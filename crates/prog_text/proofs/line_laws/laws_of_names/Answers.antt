use Rattle.prog_text.proofs.OneLine.{are_texts}
use Rattle.prog_text.proofs.line_laws.laws_of_names.Goals as goal

pub returns : goal.returns
returns c plain = are_texts c.args.graph.now c.law.ensures plain
