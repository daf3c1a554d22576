use Rattle.task_law.proofs.Hopeless.{refuted}
use Rattle.task_law.proofs.refuted.refuting_law.Goals as goal

pub returns : goal.returns
returns c =
    λ n t nodes nets once refutes. refuted _ n t c.keeps.ensures.sides c.lists_ends.ensures c.setting_laws.ensures.mode c.step_laws.ensures.source nets once nodes refutes
