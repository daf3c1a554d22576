use Rattle.run_tasks.proofs.Listed.{made_but_memory}
use Rattle.run_tasks.proofs.list.task_of_atoms.Goals as goal

pub returns-in-Err-clause-stopped : goal.returns-in-Err-clause-stopped
returns-in-Err-clause-stopped c =
    made_but_memory _ c.args.atoms.now c.args.file.now c.in-Err.error c.refused_by.result c.requires.atoms c.requires.few c.in-Err.ensures.refused c.refused_by.ensures
