use Rattle.std.proofs.Common.{◌+◌, length, slice_range, refl, arith}
use Rattle.pb_expand.specs.Tied.{graph_of}
use Rattle.pb_expand.specs.Ends.{pairs_from}
use Rattle.pb_expand.specs.declared.number.Edge.{Edge}
use Rattle.pb_expand.proofs.EdgeLists.{groups, group_is, group_lists}
use Rattle.pb_expand.proofs.Halves.{Halves, modes_ordered, all_inside, in_order, part_is}
use Rattle.pb_expand.proofs.OneOwner.{one_owner}
use Rattle.pb_expand.proofs.graph.PbGraph.edges_into.Goals as goal

pub group-group-requires : goal.group-group-requires
group-group-requires c =
    let known = rw (← c.self.view_is) at c.requires in
    rw c.self.invariant.into (omega (arith, known, groups (pairs_from (λ e. e.dst.0) 0 c.self.inside.edges.items) (length c.self.inside.pins.keys)))

pub edges_before-start-requires-clause-inside : goal.edges_before-start-requires-clause-inside
edges_before-start-requires-clause-inside c =
    let known = rw (← c.self.view_is) at c.requires in
    let g = graph_of c.self.inside in
    let lists = group_lists g (λ e. e.dst.0) c.args.pin.0 c.group-group.result.now
    (group_is (λ (e : Edge). e.dst.0) g.edges (length g.pins) c.args.pin.0 c.self.inside.into c.group-group.result.now c.self.invariant.into known c.group-group.ensures) in
    rw c.as_slice.ensures.value (all_inside g c.args.pin.0 c.group-group.result.now lists)

pub edges_before-start-requires-clause-ordered : goal.edges_before-start-requires-clause-ordered
edges_before-start-requires-clause-ordered c =
    let known = rw (← c.self.view_is) at c.requires in
    let g = graph_of c.self.inside in
    let lists = group_lists g (λ e. e.dst.0) c.args.pin.0 c.group-group.result.now
    (group_is (λ (e : Edge). e.dst.0) g.edges (length g.pins) c.args.pin.0 c.self.inside.into c.group-group.result.now c.self.invariant.into known c.group-group.ensures) in
    rw c.as_slice.ensures.value (modes_ordered g c.args.pin.0 c.group-group.result.now c.self.invariant.law.has_edges (one_owner g c.self.invariant.law) lists)

pub edges_before-end-requires-clause-inside : goal.edges_before-end-requires-clause-inside
edges_before-end-requires-clause-inside c =
    let known = rw (← c.self.view_is) at c.requires in
    let g = graph_of c.self.inside in
    let lists = group_lists g (λ e. e.dst.0) c.args.pin.0 c.group-group.result.now
    (group_is (λ (e : Edge). e.dst.0) g.edges (length g.pins) c.args.pin.0 c.self.inside.into c.group-group.result.now c.self.invariant.into known c.group-group.ensures) in
    rw c.as_slice-2.ensures.value (all_inside g c.args.pin.0 c.group-group.result.now lists)

pub edges_before-end-requires-clause-ordered : goal.edges_before-end-requires-clause-ordered
edges_before-end-requires-clause-ordered c =
    let known = rw (← c.self.view_is) at c.requires in
    let g = graph_of c.self.inside in
    let lists = group_lists g (λ e. e.dst.0) c.args.pin.0 c.group-group.result.now
    (group_is (λ (e : Edge). e.dst.0) g.edges (length g.pins) c.args.pin.0 c.self.inside.into c.group-group.result.now c.self.invariant.into known c.group-group.ensures) in
    rw c.as_slice-2.ensures.value (modes_ordered g c.args.pin.0 c.group-group.result.now c.self.invariant.law.has_edges (one_owner g c.self.invariant.law) lists)

pub slice_bounds-result-count : goal.slice_bounds-result-count
slice_bounds-result-count c =
    let known = rw (← c.self.view_is) at c.requires in
    let g = graph_of c.self.inside in
    let lists = group_lists g (λ e. e.dst.0) c.args.pin.0 c.group-group.result.now
    (group_is (λ (e : Edge). e.dst.0) g.edges (length g.pins) c.args.pin.0 c.self.inside.into c.group-group.result.now c.self.invariant.into known c.group-group.ensures) in
    let one = c.edges_before-start.ensures in
    let two = c.edges_before-end.ensures in
    let first : Halves g.edges c.group-group.result.now c.args.mode c.edges_before-start.result c.edges_before-start.result =
    record { ordered = omega arith; within = one.within; before = rw c.as_slice.ensures.value at one.before; behind = rw c.as_slice.ensures.value at one.behind } in
    let second : Halves g.edges c.group-group.result.now (c.args.mode + 1) c.edges_before-end.result c.edges_before-end.result =
    record { ordered = omega arith; within = two.within; before = rw c.as_slice-2.ensures.value at two.before; behind = rw c.as_slice-2.ensures.value at two.behind } in
    in_order g c.args.pin.0 c.args.mode c.edges_before-start.result c.edges_before-end.result c.group-group.result.now lists first second

pub slice_bounds-result-start : goal.slice_bounds-result-start
slice_bounds-result-start c = slice_bounds-result-count c

pub returns : goal.returns
returns c =
    let known = rw (← c.self.view_is) at c.requires in
    let g = graph_of c.self.inside in
    let lists = group_lists g (λ e. e.dst.0) c.args.pin.0 c.group-group.result.now
    (group_is (λ (e : Edge). e.dst.0) g.edges (length g.pins) c.args.pin.0 c.self.inside.into c.group-group.result.now c.self.invariant.into known c.group-group.ensures) in
    let one = c.edges_before-start.ensures in
    let two = c.edges_before-end.ensures in
    let first : Halves g.edges c.group-group.result.now c.args.mode c.edges_before-start.result c.edges_before-start.result =
    record { ordered = omega arith; within = one.within; before = rw c.as_slice.ensures.value at one.before; behind = rw c.as_slice.ensures.value at one.behind } in
    let second : Halves g.edges c.group-group.result.now (c.args.mode + 1) c.edges_before-end.result c.edges_before-end.result =
    record { ordered = omega arith; within = two.within; before = rw c.as_slice-2.ensures.value at two.before; behind = rw c.as_slice-2.ensures.value at two.behind } in
    let order = in_order g c.args.pin.0 c.args.mode c.edges_before-start.result c.edges_before-end.result c.group-group.result.now lists first second in
    rw (← c.self.view_is)
    (part_is g c.args.pin.0 c.args.mode c.edges_before-start.result c.edges_before-end.result c.group-group.result.now
    (slice_range c.group-group.result.now c.edges_before-start.result c.edges_before-end.result) lists order first second refl)
