use Rattle.rr_locs.proofs.Ordered.{follow}
use Rattle.rr_locs.proofs.laws.subs_follow.Goals as goal

pub returns : goal.returns
returns c = λ roots locs root number sub are has is low. follow roots locs are root has number is sub low
