use Rattle.std.proofs.Common.{ap, sym, ◌∙◌, slice_get}
use Rattle.std.proofs.lemmas.Option.{slice_get-get_or}
use Rattle.real_lines.specs.Nets.{net_names}
use Rattle.real_text.proofs.NetNames.{nets_once, names_few, read_name, fresh_name, next_name, few_so_far}
use Rattle.real_text.proofs.table.nets_by_name.Goals as goal

pub add-requires-clause-few : goal.add-requires-clause-few
add-requires-clause-few c =
    few_so_far (net_names c.args.net.now.nets c.args.task.now) c.loop-of.names c.loop-of.of-index c.loop-of.invariant
    (names_few c.args.net.now.nets c.args.task.now c.requires c.law.ensures.nets.once c.law.ensures.nets.few)

pub add-requires-clause-fresh : goal.add-requires-clause-fresh
add-requires-clause-fresh c =
    fresh_name (net_names c.args.net.now.nets c.args.task.now) c.loop-of.names c.loop-of.of-index c.as_bytes.result.now
    (nets_once c.args.net.now.nets c.args.task.now c.requires c.law.ensures.nets.once)
    (read_name c.args.net.now.nets c.args.task.now c.loop-of.of-index _ c.name.result.now c.as_bytes.result.now
    (ap (λ l. slice_get l c.loop-of.of-index) (sym c.as_slice-of-items.ensures) ∙ slice_get-get_or c.as_slice-of-items.result.now c.loop-of.of-index _ c.loop-of-test.true)
    c.name.ensures c.as_bytes.ensures.value)
    c.loop-of.invariant

pub loop-of-preserved : goal.loop-of-preserved
loop-of-preserved c =
    next_name (net_names c.args.net.now.nets c.args.task.now) c.loop-of.names c.add.new.self c.loop-of.of-index c.as_bytes.result.now
    (read_name c.args.net.now.nets c.args.task.now c.loop-of.of-index _ c.name.result.now c.as_bytes.result.now
    (ap (λ l. slice_get l c.loop-of.of-index) (sym c.as_slice-of-items.ensures) ∙ slice_get-get_or c.as_slice-of-items.result.now c.loop-of.of-index _ c.loop-of-test.true)
    c.name.ensures c.as_bytes.ensures.value)
    c.loop-of.invariant c.in_ok-add.ensures.ok
