use Rattle.std.proofs.Common.{sym, subst}
use Rattle.task_make.specs.Lists.{AreAtoms}
use Rattle.run_tasks.proofs.Listed.{listed_but_memory, are_atoms}
use Rattle.run_tasks.proofs.list.task_listed.Goals as goal

pub task_of_atoms-requires-clause-atoms : goal.task_of_atoms-requires-clause-atoms
task_of_atoms-requires-clause-atoms c =
    subst (AreAtoms c.args.net.now.atoms) (sym c.as_slice.ensures) (are_atoms c.args.net.now.atoms c.args.bytes.now _ c.in-Ok.ensures.spells)

pub returns-in-Err-clause-complete : goal.returns-in-Err-clause-complete
returns-in-Err-clause-complete c numbers spells =
    listed_but_memory _ c.args.bytes.now numbers c.args.file.now c.in-Err.error c.refused_by.result c.laws_of_lists.ensures.read spells
    c.in-Err.ensures.refused c.refused_by.ensures
