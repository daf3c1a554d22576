use Rattle.matching.proofs.Sound.{put_sound}
use Rattle.matching.proofs.state.Matching.put.Goals as goal

pub invariant_of-self : goal.invariant_of-self
invariant_of-self c =
    put_sound _ _ _ _ _ _ _ _ _ c.args.left c.args.right c.self.invariant (rw (← c.self.view_is) at c.requires.joined) (rw (← c.self.view_is) at c.requires.unplaced)
    (rw (← c.self.view_is) at c.requires.free)
