use Rattle.model_laws.proofs.Reading.{model_keeps}
use Rattle.model_laws.proofs.Whole.{whole}
use Rattle.model_laws.proofs.laws.model_law.Goals as goal

pub returns : goal.returns
returns c = λ models bytes ls m parts short lines say are.
    let plain = c.word_law.ensures bytes ls lines in
    whole models bytes ls m parts short plain (model_keeps models bytes ls m c.step_law.ensures.empty c.step_law.ensures.steps plain say) are
