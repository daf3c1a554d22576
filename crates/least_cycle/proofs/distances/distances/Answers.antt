use Rattle.std.proofs.Common.{◌<◌, ◌∙◌, Some, length, sym, ap, arith, rules}
use Rattle.std.proofs.lemmas.Option.{slice_get-get_or}
use Rattle.least_cycle.specs.Walks.{JoinsBack}
use Rattle.least_cycle.specs.Spreads.{IsQueued}
use Rattle.least_cycle.proofs.Scanning.{begin_is, scan_step, scan_falls, all_scanned, group_into, group_out_of}
use Rattle.least_cycle.proofs.distances.distances.Goals as goal

pub scan-init : goal.scan-init
scan-init c =
    begin_is c.args.prevs.now c.args.to c.groups.result c.requires.to c.groups.ensures c.in_ok-distances.distances.items c.in_ok-queue.queue.items
    (c.in_ok-distances.ensures.items_if_clones_equal (λ y x. search rules)) c.in_ok-queue.ensures.items

pub spread-requires : goal.spread-requires
spread-requires c node has =
    let low = c.requires.nodes c.index.result.now.0 node (c.group.result.now, c.group.ensures, has) in
    omega (arith, low, c.scan.invariant.scan.each, c.scan.distances.ok)

pub scan-preserved : goal.scan-preserved
scan-preserved c =
    let at_low : c.scan.at < length c.scan.queue.items = omega (arith, c.scan-test.true, c.len.ensures, c.scan.queue.ok) in
    let node_at : IsQueued c.scan.queue.items c.scan.at c.index.result.now.0 c.index.result.now.1 =
    slice_get-get_or c.scan.queue.items c.scan.at c.index.result.now at_low ∙ ap Some (sym c.index.ensures) in
    scan_step (JoinsBack c.args.prevs.now) (length c.args.prevs.now) c.args.to c.scan.distances.items c.scan.queue.items c.scan.at c.scan.invariant.scan
    c.index.result.now.0 c.index.result.now.1 node_at c.group.result.now (group_into c.args.prevs.now c.index.result.now.0 c.group.result.now c.group.ensures)
    (group_out_of c.args.prevs.now c.index.result.now.0 c.group.result.now c.group.ensures) c.spread.new.distances.items c.spread.new.queue.items c.in_ok-spread.ensures

pub scan-smaller : goal.scan-smaller
scan-smaller c =
    let at_low : c.scan.at < length c.scan.queue.items = omega (arith, c.scan-test.true, c.len.ensures, c.scan.queue.ok) in
    let node_at : IsQueued c.scan.queue.items c.scan.at c.index.result.now.0 c.index.result.now.1 =
    slice_get-get_or c.scan.queue.items c.scan.at c.index.result.now at_low ∙ ap Some (sym c.index.ensures) in
    scan_falls (JoinsBack c.args.prevs.now) (length c.args.prevs.now) c.args.to c.scan.distances.items c.scan.queue.items c.scan.at c.scan.invariant.scan
    c.index.result.now.0 c.index.result.now.1 node_at c.group.result.now (group_into c.args.prevs.now c.index.result.now.0 c.group.result.now c.group.ensures)
    (group_out_of c.args.prevs.now c.index.result.now.0 c.group.result.now c.group.ensures) c.spread.new.distances.items c.spread.new.queue.items c.in_ok-spread.ensures

pub returns : goal.returns
returns c =
    all_scanned (JoinsBack c.args.prevs.now) (length c.args.prevs.now) c.args.to c.scan.distances.items c.scan.queue.items c.scan.at c.scan.invariant
    (omega (arith, c.scan-test.false, c.len.ensures, c.scan.queue.ok))
