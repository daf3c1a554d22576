use Rattle.task_types.specs.Realises.{Realises}
use Rattle.search_rules.specs.Reading.{IsRealOf}
use Rattle.mode_search.proofs.Results.{ok_then}
use Rattle.mode_search.proofs.find.real_at.Goals as goal

pub returns : goal.returns
returns c =
    ok_then (IsRealOf c.args.graph.now c.args.task.now c.args.trail.now.made) (Realises c.args.graph.now c.args.net.now.atoms c.args.task.now) c.real_of.result
    (λ r is. c.legal_law.ensures c.args.net.now.atoms c.args.task.now c.args.trail.now.made r c.requires.path c.requires.ready is) c.real_of.ensures
