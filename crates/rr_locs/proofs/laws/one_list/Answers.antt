use Rattle.rr_locs.proofs.OneList.{one_locs}
use Rattle.rr_locs.proofs.laws.one_list.Goals as goal

pub returns : goal.returns
returns c = one_locs
