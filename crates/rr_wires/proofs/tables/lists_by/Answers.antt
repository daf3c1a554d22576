use Rattle.std.proofs.Common.{◌∙◌, ◌++◌, ◌∷◌, [], ap, arith}
use Rattle.rr_wires.specs.declared.types.OwnedEdge.{OwnedEdge}
use Rattle.rr_wires.specs.declared.types.WireIx.{WireIx}
use Rattle.rr_wires.proofs.Keys.{wire_ix}
use Rattle.rr_wires.proofs.WireLists.{none_keyed, keyed_step, keys_below, lists_are, keyed, redge_ix}
use Rattle.rr_wires.proofs.tables.lists_by.Goals as goal

abbrev no_edge : OwnedEdge
no_edge = record { redge = record { src = wire_ix 0; dst = wire_ix 0; src_node = 0; dst_node = 0; switch = 0 }; place = 0 }

pub loop-number-init : goal.loop-number-init
loop-number-init c = none_keyed c.args.edges.now c.args.end c.in_ok-pairs.pairs.items c.in_ok-pairs.ensures.items

pub loop-number-preserved : goal.loop-number-preserved
loop-number-preserved c =
    keyed_step c.args.edges.now c.args.end c.loop-number.number no_edge c.loop-number-test.true c.loop-number.pairs.items c.push.new.self.items c.loop-number.invariant
    (c.in_ok-push.ensures.items ∙ ap (λ (w : WireIx). c.loop-number.pairs.items ++ keyed w.0 (redge_ix c.loop-number.number) ∷ []) c.wire_at.ensures)

pub from_pairs-requires-clause-keys : goal.from_pairs-requires-clause-keys
from_pairs-requires-clause-keys c =
    rw c.deref.ensures.value (keys_below c.args.edges.now c.args.end c.loop-number.number c.args.wires c.loop-number.pairs.items c.loop-number.invariant c.requires.ends)

pub from_pairs-requires-clause-size : goal.from_pairs-requires-clause-size
from_pairs-requires-clause-size c = rw c.deref.ensures.value (omega (arith, c.loop-number.invariant.long, c.requires.few))

pub returns : goal.returns
returns c =
    let table = rw c.deref.ensures.value at c.in_ok-from_pairs.ensures in
    lists_are c.args.edges.now c.args.end c.loop-number.number c.args.wires c.loop-number.pairs.items c.in_ok-from_pairs.field-0 (omega arith) c.loop-number.invariant table
