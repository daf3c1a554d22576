use Rattle.task_rules.proofs.Rules.{nets_once}
use Rattle.task_rules.proofs.laws.valid_law.Goals as goal

pub returns-clause-nets : goal.returns-clause-nets
returns-clause-nets c g n t valid = nets_once g n t valid
