use Rattle.std.proofs.Common.{◌≡◌, refl, sym, subst}
use Rattle.task_types.specs.declared.real.Real.{Real}
use Rattle.task_types.specs.Realises.{Realises}
use Rattle.mode_search.proofs.Ended.{given_up}
use Rattle.mode_search.proofs.find.legalise.Goals as goal

pub returns-then-is_empty-clause-answer : goal.returns-then-is_empty-clause-answer
returns-then-is_empty-clause-answer c =
    subst (λ (r : Real). Realises c.args.graph.now c.args.net.now.atoms c.args.task.now r) (sym c.in_ok-nothing_chosen.ensures)
    (c.empty_law.ensures.empty c.args.graph.now c.args.net.now.atoms c.args.task.now c.requires.valid (c.if-is_empty.ensures.0 refl))

pub for_task-requires-clause-homes : goal.for_task-requires-clause-homes
for_task-requires-clause-homes c = c.home_law.ensures c.args.net.now.atoms c.args.task.now c.requires.valid

pub found_at_once-requires-clause-task : goal.found_at_once-requires-clause-task
found_at_once-requires-clause-task c = c.there_law.ensures c.args.graph.now c.args.task.now c.requires.valid

pub search-requires-clause-task : goal.search-requires-clause-task
search-requires-clause-task c = c.there_law.ensures c.args.graph.now c.args.task.now c.requires.valid

pub found-requires-clause-task : goal.found-requires-clause-task
found-requires-clause-task c = c.there_law.ensures c.args.graph.now c.args.task.now c.requires.valid

pub returns-clause-answer : goal.returns-clause-answer
returns-clause-answer c =
    given_up c.args.graph.now c.args.net.now.atoms c.args.task.now c.args.nodes c.search.new.trail.made c.in_ok-search.field-0 c.in-GivenUp.tree c.in-GivenUp.is c.in_ok-search.ensures.outcome c.room_law.ensures
    (λ r none realises. c.empty_law.ensures.some c.args.graph.now c.args.net.now.atoms c.args.task.now r (λ no. let bad : ⊥ = cc (c.if-is_empty.ensures.1 no) in bad) none realises)
