use Rattle.tree_lines.specs.Nodes.{task_names}
use Rattle.tree_text.proofs.TaskNames.{read_name, names_once, fresh_name, next_name}
use Rattle.tree_text.proofs.table.task_atoms.Goals as goal

pub add-requires-clause-fresh : goal.add-requires-clause-fresh
add-requires-clause-fresh c =
    fresh_name (task_names c.args.net.now.atoms c.args.task.now) c.loop-number.names c.loop-number.number-index c.as_bytes.result.now
    (names_once c.args.net.now.atoms c.args.task.now c.requires c.law.ensures.atoms.once)
    (read_name c.args.net.now.atoms c.args.task.now c.requires c.as_slice-number-items.result.now c.atoms.result.now c.loop-number.number-index 0 c.index-atoms-number.result
    c.as_bytes.result.now c.as_slice-number-items.ensures c.atoms.ensures c.loop-number-test.true c.index-atoms-number.is c.as_bytes.ensures)
    c.loop-number.invariant

pub loop-number-preserved : goal.loop-number-preserved
loop-number-preserved c =
    next_name (task_names c.args.net.now.atoms c.args.task.now) c.loop-number.names c.add.new.self c.loop-number.number-index c.as_bytes.result.now
    (read_name c.args.net.now.atoms c.args.task.now c.requires c.as_slice-number-items.result.now c.atoms.result.now c.loop-number.number-index 0 c.index-atoms-number.result
    c.as_bytes.result.now c.as_slice-number-items.ensures c.atoms.ensures c.loop-number-test.true c.index-atoms-number.is c.as_bytes.ensures)
    c.loop-number.invariant c.in_ok-add.ensures.ok
