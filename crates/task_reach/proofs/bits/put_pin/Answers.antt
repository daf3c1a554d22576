use Rattle.task_reach.proofs.Growing.{gains_one}
use Rattle.task_reach.proofs.bits.put_pin.Goals as goal

pub returns-clause-gains : goal.returns-clause-gains
returns-clause-gains c = gains_one c.args.reached.now c.insert.new.self c.args.pin.0 c.insert.result c.insert.ensures
