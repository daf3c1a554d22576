use Rattle.std.proofs.Common.{◌∙◌, ap}
use Rattle.blif_order.specs.Queues.{seen}
use Rattle.blif_order.proofs.Going.{start, step, end, pushed}
use Rattle.blif_order.proofs.lines.line_order.Goals as goal

pub loop-atom-init : goal.loop-atom-init
loop-atom-init c =
    rw c.new-lines.ensures.items
    (start c.args.netlist.now c.law.ensures (seen c.as_slice.result.now) (seen c.as_slice-2.result.now) (seen c.as_slice-3.result.now)
    (ap seen c.as_slice.ensures.value ∙ (rw c.atoms.ensures at c.in_ok-inputs.ensures))
    (ap seen c.as_slice-2.ensures.value ∙ (rw c.atoms-2.ensures at c.in_ok-outputs.ensures))
    (ap seen c.as_slice-3.ensures.value ∙ (rw c.atoms-3.ensures at c.in_ok-elements.ensures)))

pub loop-atom-preserved : goal.loop-atom-preserved
loop-atom-preserved c =
    pushed c.args.netlist.now c.in-Some.rest c.loop-atom.lines.items c.in-Some.atom c.push.new.self.items c.in_ok-push.ensures.items
    (step c.args.netlist.now c.loop-atom.queues c.in-Some.rest c.in-Some.atom.now (seen c.loop-atom.lines.items) c.loop-atom.invariant c.in-Some.ensures)

pub returns : goal.returns
returns c = end c.args.netlist.now c.loop-atom.queues (seen c.loop-atom.lines.items) c.loop-atom.invariant c.in_default.ensures
