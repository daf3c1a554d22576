use Rattle.mode_edges.proofs.Walking.{enters_own, enters_child}
use Rattle.mode_edges.proofs.walk.PinWalk.enter_group.Goals as goal

pub returns-in-None : goal.returns-in-None
returns-in-None c = enters_own c.args.self.now c.args.group c.requires.done c.requires.last c.requires.next c.in-None.is

pub returns-in-Some : goal.returns-in-Some
returns-in-Some c = enters_child c.args.self.now c.args.group c.in-Some.of c.requires.done c.requires.last c.requires.next c.in-Some.is
