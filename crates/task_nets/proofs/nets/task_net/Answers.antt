use Rattle.task_nets.proofs.Makers.{maker_at, read_outside}
use Rattle.task_nets.proofs.nets.task_net.Goals as goal

pub returns-clause-is : goal.returns-clause-is
returns-clause-is c = record {
  maker = maker_at c.args.net.now.atoms c.args.atoms.now c.args.number c.driver.result c.place_of-maker.result (c.law.ensures.made c.args.number c.requires) c.driver.ensures c.place_of-maker.ensures;
  leaves = read_outside c.args.net.now.atoms c.args.atoms.now c.args.number c.sinks.result.now c.is_read_outside-leaves.result c.sinks.ensures c.is_read_outside-leaves.ensures;
}
