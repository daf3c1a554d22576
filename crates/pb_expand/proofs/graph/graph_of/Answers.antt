use Rattle.std.proofs.Common.{◌≤◌, Err, map, length, refl, sym, ap, ◌∙◌, subst, inr, arith}
use Rattle.std.proofs.lemmas.List.{length-map}
use Rattle.arch_types.specs.declared.block.PbType.{PbType}
use Rattle.pb_expand.specs.Rows.{addresses}
use Rattle.pb_expand.specs.declared.number.Edge.{Edge}
use Rattle.arch_types.specs.Address.{instances_of}
use Rattle.arch_types.proofs.Numbered.{is_numbering}
use Rattle.flat_tables.specs.Groups.{groups_of}
use Rattle.pb_expand.specs.Ends.{pairs_from}
use Rattle.pb_expand.specs.Making.{AreBefore}
use Rattle.pb_expand.specs.declared.error.ExpandError.TheVariants.{OutOfMemory}
use Rattle.pb_expand.specs.Graph.{pins_of}
use Rattle.pb_expand.specs.Refusals.{IsRefusal, error_of_edge, error_of_size}
use Rattle.pb_expand.proofs.RowLemmas.{length-addresses}
use Rattle.pb_expand.proofs.EdgeList.{made_inside}
use Rattle.pb_expand.proofs.Firsts.{stand_for}
use Rattle.pb_expand.proofs.Tying.{tied}
use Rattle.pb_expand.proofs.Told.{passed_with}
use Rattle.pb_expand.proofs.Verdicts.{fault_told, excess_told, more_edges, not_more, or_edges, small}
use Rattle.pb_expand.proofs.Parts.{parts}
use Rattle.pb_expand.proofs.graph.graph_of.Goals as goal

pub returns-in_err-check_tree-clause-refused : goal.returns-in_err-check_tree-clause-refused
returns-in_err-check_tree-clause-refused c =
    let e = c.in_err-check_tree.field-0.0 in
    passed_with (IsRefusal c.args.root.now) _ (error_of_edge e) c.from_residual-in_err-check_tree.ensures.1
    (subst (λ (b : PbType). IsRefusal b (error_of_edge e)) c.in_ok-copy.ensures (fault_told c.in_ok-copy.copy e c.in_err-check_tree.ensures.fault))

pub returns-in_err-places-clause-refused : goal.returns-in_err-places-clause-refused
returns-in_err-places-clause-refused c =
    let e = c.in_err-places.field-0.0 in
    let copy = c.in_ok-copy.copy in
    passed_with (IsRefusal c.args.root.now) _ (error_of_size e) c.from_residual-in_err-places.ensures.1
    (subst (λ (b : PbType). IsRefusal b (error_of_size e)) c.in_ok-copy.ensures
    (excess_told copy e (Err e) refl c.in_ok-check_tree.ensures.sound (λ told. or_edges copy (c.in_err-places.ensures.many told))))

pub edges_of-requires-clause-parts : goal.edges_of-requires-clause-parts
edges_of-requires-clause-parts c =
    let places = c.in_ok-places.places in
    parts c.in_ok-copy.copy places.rows.keys places.pins.keys (map (λ b. b.now) places.blocks.items) c.in_ok-places.ensures.tree c.in_ok-places.ensures.instances
    c.in_ok-places.ensures.blocks c.in_ok-places.ensures.short c.in_ok-places.ensures.pins c.in_ok-places.ensures.few_rows c.in_ok-places.ensures.few_pins
    c.in_ok-check_tree.ensures.sound

pub returns-in_err-edges-clause-refused : goal.returns-in_err-edges-clause-refused
returns-in_err-edges-clause-refused c =
    let e = c.in_err-edges.field-0.0 in
    let copy = c.in_ok-copy.copy in
    let places = c.in_ok-places.places in
    passed_with (IsRefusal c.args.root.now) _ (error_of_size e) c.from_residual-in_err-edges.ensures.1
    (subst (λ (b : PbType). IsRefusal b (error_of_size e)) c.in_ok-copy.ensures
    (excess_told copy e (Err e) refl c.in_ok-check_tree.ensures.sound (λ told.
    inr (inr (more_edges copy (map (λ b. b.now) places.blocks.items) (addresses places.rows.keys) places.pins.keys 4194304 c.in_ok-places.ensures.blocks
    c.in_ok-places.ensures.instances c.in_ok-places.ensures.pins (c.in_err-edges.ensures.many told))))))

pub edges_of-requires-clause-firsts : goal.edges_of-requires-clause-firsts
edges_of-requires-clause-firsts c =
    let root = c.in_ok-copy.copy in
    let places = c.in_ok-places.places in
    stand_for root (instances_of root) (map (λ b. b.now) places.blocks.items) places.firsts.items c.in_ok-places.ensures.blocks (is_numbering root) c.in_ok-places.ensures.firsts

pub edges_of-requires-clause-all_firsts : goal.edges_of-requires-clause-all_firsts
edges_of-requires-clause-all_firsts c =
    let places = c.in_ok-places.places in
    c.in_ok-places.ensures.firsts.all ∙ sym c.in_ok-places.ensures.blocks.all ∙ length-map places.blocks.items (λ b. b.now)

pub overflow_cast-count : goal.overflow_cast-count
overflow_cast-count c = omega (arith, c.in_ok-places.ensures.few_pins, c.len-count.ensures.len)

pub edges_by_end-requires-clause-inside : goal.edges_by_end-requires-clause-inside
edges_by_end-requires-clause-inside c =
    let places = c.in_ok-places.places in
    rw (c.as_slice.ensures.value, c.len-count.ensures.len)
    (λ k e at. (made_inside (map (λ b. b.now) places.blocks.items) (addresses places.rows.keys) places.pins.keys (length places.blocks.items) 0 c.in_ok-edges.edges.items
    c.in_ok-edges.ensures.edges k e at).1)

pub edges_by_source-requires-clause-inside : goal.edges_by_source-requires-clause-inside
edges_by_source-requires-clause-inside c =
    let places = c.in_ok-places.places in
    rw (c.as_slice-2.ensures.value, c.len-count.ensures.len)
    (λ k e at. (made_inside (map (λ b. b.now) places.blocks.items) (addresses places.rows.keys) places.pins.keys (length places.blocks.items) 0 c.in_ok-edges.edges.items
    c.in_ok-edges.ensures.edges k e at).0)

pub returns-in_err-out_of-clause-refused : goal.returns-in_err-out_of-clause-refused
returns-in_err-out_of-clause-refused c = passed_with (IsRefusal c.args.root.now) _ OutOfMemory c.from_residual-in_err-out_of.ensures.1 tt

pub invariant_of-result : goal.invariant_of-result
invariant_of-result c =
    let root = c.in_ok-copy.copy in
    let places = c.in_ok-places.places in
    let blocks = map (λ b. b.now) places.blocks.items in
    let edges = c.in_ok-edges.edges.items in
    let before = subst (λ n. AreBefore blocks (addresses places.rows.keys) places.pins.keys n 0 edges)
    (sym (length-map places.blocks.items (λ b. b.now))) c.in_ok-edges.ensures.edges in
    let few_instances : length (instances_of root) ≤ 1048576 = omega (arith, c.in_ok-places.ensures.few_rows, length-addresses places.rows.keys, ap length c.in_ok-places.ensures.instances) in
    let few_pins : length (pins_of root) ≤ 1048576 = omega (arith, c.in_ok-places.ensures.few_pins, ap length c.in_ok-places.ensures.pins) in
    let fits = small root (not_more root blocks (addresses places.rows.keys) places.pins.keys edges 4194304 c.in_ok-places.ensures.blocks c.in_ok-places.ensures.instances
    c.in_ok-places.ensures.pins before c.in_ok-edges.ensures.few) few_instances few_pins in
    let into = c.in_ok-into.ensures ∙ ap (λ l. groups_of (pairs_from (λ (e : Edge). e.dst.0) 0 l) c.len-count.result) c.as_slice.ensures.value
    ∙ ap (λ n. groups_of (pairs_from (λ (e : Edge). e.dst.0) 0 edges) n) c.len-count.ensures.len in
    let out_of = c.in_ok-out_of.ensures ∙ ap (λ l. groups_of (pairs_from (λ (e : Edge). e.src.0) 0 l) c.len-count.result) c.as_slice-2.ensures.value
    ∙ ap (λ n. groups_of (pairs_from (λ (e : Edge). e.src.0) 0 edges) n) c.len-count.ensures.len in
    rw c.into_parts-rows.ensures
    (tied _ blocks c.in_ok-places.ensures.tree c.in_ok-places.ensures.instances c.in_ok-places.ensures.blocks c.in_ok-places.ensures.short c.in_ok-places.ensures.pins
    c.in_ok-places.ensures.few_rows c.in_ok-places.ensures.few_pins before c.in_ok-edges.ensures.few (omega (arith, c.ranges.block.fits)) c.in_ok-check_tree.ensures.sound fits into out_of
    c.in_ok-places.ensures.firsts c.in_ok-places.ensures.shapes)

pub returns-clause-fits : goal.returns-clause-fits
returns-clause-fits c =
    let root = c.in_ok-copy.copy in
    let places = c.in_ok-places.places in
    let blocks = map (λ b. b.now) places.blocks.items in
    let before = subst (λ n. AreBefore blocks (addresses places.rows.keys) places.pins.keys n 0 c.in_ok-edges.edges.items)
    (sym (length-map places.blocks.items (λ b. b.now))) c.in_ok-edges.ensures.edges in
    small root (not_more root blocks (addresses places.rows.keys) places.pins.keys c.in_ok-edges.edges.items 4194304 c.in_ok-places.ensures.blocks c.in_ok-places.ensures.instances
    c.in_ok-places.ensures.pins before c.in_ok-edges.ensures.few)
    (omega (arith, c.in_ok-places.ensures.few_rows, length-addresses places.rows.keys, ap length c.in_ok-places.ensures.instances))
    (omega (arith, c.in_ok-places.ensures.few_pins, ap length c.in_ok-places.ensures.pins))
