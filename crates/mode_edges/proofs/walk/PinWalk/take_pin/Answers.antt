use Rattle.mode_edges.proofs.Walking.{gives_pin}
use Rattle.mode_edges.proofs.walk.PinWalk.take_pin.Goals as goal

pub returns : goal.returns
returns c = gives_pin c.args.self.now c.requires
