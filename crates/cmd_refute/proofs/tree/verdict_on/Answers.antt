use Rattle.cmd_refute.proofs.Few.{nodes_few}
use Rattle.cmd_refute.proofs.Atoms.{has_atoms}
use Rattle.cmd_refute.proofs.Judged.{refused_for_memory}
use Rattle.cmd_refute.proofs.tree.verdict_on.Goals as goal

pub laws_of_trees-requires-clause-atoms : goal.laws_of_trees-requires-clause-atoms
laws_of_trees-requires-clause-atoms c = has_atoms c.args.graph.now c.args.net.now.atoms c.args.task.now c.requires.valid

pub read_tree-requires-clause-atoms : goal.read_tree-requires-clause-atoms
read_tree-requires-clause-atoms c = has_atoms c.args.graph.now c.args.net.now.atoms c.args.task.now c.requires.valid

pub judge-requires-clause-task : goal.judge-requires-clause-task
judge-requires-clause-task c = c.there_law.ensures c.args.graph.now c.args.task.now c.requires.valid

pub judge-requires-clause-few : goal.judge-requires-clause-few
judge-requires-clause-few c = nodes_few c.args.graph.now c.args.task.now _ c.args.bytes.now _ c.requires.few c.in-Ok.ensures.spells

pub returns-in-Err-clause-complete : goal.returns-in-Err-clause-complete
returns-in-Err-clause-complete c nodes spells =
    refused_for_memory _ _ _ c.args.file.now c.args.bytes.now nodes c.in-Err.error c.refused_by.result c.laws_of_trees.ensures.read spells
    c.in-Err.ensures.refused c.refused_by.ensures
