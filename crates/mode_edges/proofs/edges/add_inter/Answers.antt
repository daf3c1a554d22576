use Rattle.std.specs.List.{flat_map}
use Rattle.mode_edges.specs.declared.pin.EdgeEnd.TheVariants.{Source, End}
use Rattle.mode_edges.specs.Pairs.{edges_in, given_by, AddsUpTo}
use Rattle.mode_edges.specs.Readers.{pins_of}
use Rattle.mode_edges.proofs.Verdicts.{none_unnamed, pins_named, at_both}
use Rattle.mode_edges.proofs.edges.add_inter.Goals as goal

pub unreachable-requires : goal.unreachable-requires
unreachable-requires c =
    none_unnamed c.args.names.now.block c.args.names.now.mode Source c.as_bytes.result.now c.args.inter.now.input c.requires.ins c.as_bytes.ensures
    c.requires.names.reads_ins (rw c.in_default.is at c.in_ok-ins.ensures)

pub unreachable-requires-in_default-2 : goal.unreachable-requires-in_default-2
unreachable-requires-in_default-2 c =
    none_unnamed c.args.names.now.block c.args.names.now.mode End c.as_bytes-2.result.now c.args.inter.now.output c.requires.outs c.as_bytes-2.ensures
    c.requires.names.reads_outs (rw c.in_default-2.is at c.in_ok-outs.ensures)

pub returns : goal.returns
returns c = record {
  ins = flat_map pins_of c.in-Some.ins.items;
  outs = flat_map pins_of c.in-Some-2.outs.items;
  names = pins_named c.args.names.now.block c.args.names.now.mode c.args.inter.now c.as_bytes.result.now c.as_bytes-2.result.now c.in-Some.ins.items c.in-Some-2.outs.items
      (record { is_input = c.as_bytes.ensures; is_output = c.as_bytes-2.ensures; reads_ins = rw c.in-Some.is at c.in_ok-ins.ensures; reads_outs = rw c.in-Some-2.is at c.in_ok-outs.ensures });
  adds = at_both (λ x y. AddsUpTo c.args.most (edges_in c.args.found.now) (edges_in c.add_edges.new.found)
      (given_by c.args.inter.now.kind c.args.number (flat_map pins_of x) (flat_map pins_of y)) c.in_ok-add_edges.field-0)
      c.as_slice.result.now c.as_slice-2.result.now c.in-Some.ins.items c.in-Some-2.outs.items c.as_slice.ensures.value c.as_slice-2.ensures.value c.in_ok-add_edges.ensures;
}
