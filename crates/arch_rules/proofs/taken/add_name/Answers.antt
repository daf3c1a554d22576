use Rattle.arch_rules.proofs.Sets.{met}
use Rattle.arch_rules.proofs.taken.add_name.Goals as goal

pub returns-clause-met : goal.returns-clause-met
returns-clause-met c = met c.args.seen.now c.insert.new.self c.args.name c.in_ok-insert.ensures.updates
