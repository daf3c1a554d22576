use Rattle.mode_edges.proofs.Walking.{enters_instance}
use Rattle.mode_edges.proofs.walk.PinWalk.enter_instance.Goals as goal

pub returns : goal.returns
returns c = enters_instance c.args.self.now c.requires.done c.requires.more
