use Rattle.name_laws.proofs.OneName.{one_instance_named, one_pin_named, one_mode_named, are_words}
use Rattle.name_laws.proofs.laws.names_are_one.Goals as goal

pub returns-clause-instance : goal.returns-clause-instance
returns-clause-instance c plain = one_instance_named c.args.graph.now c.law.ensures plain

pub returns-clause-pin : goal.returns-clause-pin
returns-clause-pin c plain = one_pin_named c.args.graph.now c.law.ensures plain

pub returns-clause-mode : goal.returns-clause-mode
returns-clause-mode c plain = one_mode_named c.args.graph.now c.law.ensures plain

pub returns-clause-words : goal.returns-clause-words
returns-clause-words c plain = are_words c.args.graph.now c.law.ensures plain
