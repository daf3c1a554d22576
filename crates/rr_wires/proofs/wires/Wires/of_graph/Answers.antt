use Rattle.rr_wires.specs.declared.types.End.TheVariants.{Src, Dst}
use Rattle.rr_wires.proofs.SoundGraphs.{all_wires, sound_graph, sound_numbering, src_known, dst_known, ends_below, ends_known, one_value}
use Rattle.rr_wires.proofs.OneGraph.{graph}
use Rattle.rr_wires.proofs.wires.Wires.of_graph.Goals as goal

pub owned_edges-requires-clause-ends : goal.owned_edges-requires-clause-ends
owned_edges-requires-clause-ends c e has =
    ends_known c.args.nodes.now c.in_ok-numbers.numbers c.in_ok-numbers.ensures.numbers c.in_ok-numbers.ensures.lows e (c.requires.ends e has)

pub owned_edges-requires-clause-one : goal.owned_edges-requires-clause-one
owned_edges-requires-clause-one c = one_value c.in_ok-numbers.numbers.nodes c.in_ok-numbers.ensures.numbers.nodes_ascend

pub lists_by-requires-clause-ends : goal.lists_by-requires-clause-ends
lists_by-requires-clause-ends c =
    let n = c.in_ok-numbers.numbers in
    let owned = c.in_ok-edges.edges.items in
    let sound = sound_numbering c.args.nodes.now n c.in_ok-numbers.ensures.numbers c.in_ok-numbers.ensures.few in
    let below = ends_below n owned sound (src_known n.nodes c.args.edges.now owned c.in_ok-edges.ensures.owned) (dst_known n.nodes c.args.edges.now owned c.in_ok-edges.ensures.owned) Dst in
    rw (c.as_slice.ensures.value, c.count-wires.ensures) below

pub lists_by-requires-2-clause-ends : goal.lists_by-requires-2-clause-ends
lists_by-requires-2-clause-ends c =
    let n = c.in_ok-numbers.numbers in
    let owned = c.in_ok-edges.edges.items in
    let sound = sound_numbering c.args.nodes.now n c.in_ok-numbers.ensures.numbers c.in_ok-numbers.ensures.few in
    let below = ends_below n owned sound (src_known n.nodes c.args.edges.now owned c.in_ok-edges.ensures.owned) (dst_known n.nodes c.args.edges.now owned c.in_ok-edges.ensures.owned) Src in
    rw (c.as_slice-2.ensures.value, c.count-wires.ensures) below

pub invariant_of-result : goal.invariant_of-result
invariant_of-result c =
    let n = c.in_ok-numbers.numbers in
    let owned = c.in_ok-edges.edges.items in
    record {
      sound = sound_graph c.args.nodes.now c.args.edges.now (graph n owned) c.in_ok-numbers.ensures.numbers c.in_ok-edges.ensures.owned
          c.in_ok-numbers.ensures.few c.in_ok-edges.ensures.few;
      into = rw (c.as_slice.ensures.value, c.count-wires.ensures) at c.in_ok-into.ensures;
      out_of = rw (c.as_slice-2.ensures.value, c.count-wires.ensures) at c.in_ok-out_of.ensures;
    }

pub returns : goal.returns
returns c = record {
  numbering = c.in_ok-numbers.ensures.numbers;
  all = all_wires c.args.nodes.now c.in_ok-numbers.numbers c.in_ok-numbers.ensures.numbers c.in_ok-numbers.ensures.lows;
  owned = c.in_ok-edges.ensures.owned;
}
