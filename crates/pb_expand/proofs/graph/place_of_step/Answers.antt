use Rattle.pb_expand.proofs.Lists.{place_says}
use Rattle.pb_expand.proofs.RowLemmas.{one_step, step_itself}
use Rattle.pb_expand.proofs.graph.place_of_step.Goals as goal

pub returns : goal.returns
returns c = place_says _ c.args.rows.now.keys _ c.args.step c.get_index_of.ensures.index (one_step c.args.step) (step_itself c.args.step)
