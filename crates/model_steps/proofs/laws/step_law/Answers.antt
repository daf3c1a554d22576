use Rattle.model_steps.proofs.Appending.{keeps_empty}
use Rattle.model_steps.proofs.Lines.{keeps_line}
use Rattle.model_steps.proofs.laws.step_law.Goals as goal

pub returns : goal.returns
returns c = record {
  empty = keeps_empty;
  steps = λ models words limit m s new k plain adds. keeps_line models words limit m k s new plain adds;
}
