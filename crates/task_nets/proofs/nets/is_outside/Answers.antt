use Rattle.task_nets.proofs.Makers.{outside}
use Rattle.task_nets.proofs.nets.is_outside.Goals as goal

pub returns : goal.returns
returns c = outside c.args.atoms.now c.args.number c.place_of.result c.is_none.result c.is_none.ensures c.place_of.ensures
