use Rattle.search_rules.specs.Closing.{Closes}
use Rattle.mode_search.proofs.Results.{some_at}
use Rattle.mode_search.proofs.sets.SetsGuide.close.Goals as goal

pub returns-in-Some-clause-closes : goal.returns-in-Some-clause-closes
returns-in-Some-clause-closes c = some_at (Closes c.args.graph.now c.args.net.now.atoms c.args.task.now c.args.trail.now.made) c.in_ok-leaf.field-0 c.in-Some.leaf c.in-Some.is (c.in_ok-leaf.ensures.closes c.args.net.now.atoms)
