use Rattle.tree_verdict.proofs.Apart.{verdicts_agree}
use Rattle.tree_verdict.proofs.verdict.one_verdict.Goals as goal

pub returns : goal.returns
returns c = λ g n t nodes a b x y. verdicts_agree g n t nodes a b x y
