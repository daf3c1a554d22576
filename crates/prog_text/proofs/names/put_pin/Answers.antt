use Rattle.prog_map.proofs.Instances.{port_there}
use Rattle.prog_text.proofs.names.put_pin.Goals as goal

pub port_name-requires-clause-there : goal.port_name-requires-clause-there
port_name-requires-clause-there c = port_there _ _ c.pin_at-at.result c.law.ensures c.pin_at-at.ensures.is
