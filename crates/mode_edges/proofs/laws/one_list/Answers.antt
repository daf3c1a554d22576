use Rattle.mode_edges.proofs.OneList.{list_one}
use Rattle.mode_edges.proofs.laws.one_list.Goals as goal

pub returns : goal.returns
returns c block mode xs ys a b = list_one block mode xs ys a b
