use Rattle.std.proofs.Common.{codes, refl, sym, subst, inl, ◌∙◌}
use Rattle.rr_edges.specs.FileEdges.{edges_of}
use Rattle.rr_nodes.specs.Saying.{SaysNodes}
use Rattle.rr_tables.specs.Looks.{pin_of}
use Rattle.rr_files.specs.declared.error.RrError.TheVariants.{OutOfMemory}
use Rattle.rr_files.specs.Refusing.{RootFails, error_of_node, error_of_edge}
use Rattle.rr_files.specs.Saying.{node_elems, SaysGraph}
use Rattle.rr_files.proofs.Joining.{same_refused, same_said, all_ends, sound_graph, says_graph}
use Rattle.rr_files.proofs.Passing.{OrShort, passed, layout_told, nodes_told, edges_told}
use Rattle.rr_files.proofs.Sounding.{Rules}
use Rattle.rr_files.proofs.Thinning.{tag_is, edges_stay}
use Rattle.rr_files.proofs.read.read_root.Goals as goal

pub returns-in_err-layout : goal.returns-in_err-layout
returns-in_err-layout c =
    let tiles = c.args.arch.now.tiles in
    let root = c.args.root in
    let e = c.in_err-layout.field-0.0 in
    passed (SaysGraph tiles root) (OrShort (RootFails tiles root)) c.from_residual-in_err-layout.result e c.from_residual-in_err-layout.ensures.1
    (layout_told tiles root (tag_is root (codes "rr_graph") (sym c.if-not-has_tag.ensures)) c.in_ok-switches.switches c.in_ok-switches.ensures.read e c.in_err-layout.ensures)

pub returns-in_err-nodes : goal.returns-in_err-nodes
returns-in_err-nodes c =
    let tiles = c.args.arch.now.tiles in
    let root = c.args.root in
    let e = c.in_err-nodes.field-0.0 in
    passed (SaysGraph tiles root) (OrShort (RootFails tiles root)) c.from_residual-in_err-nodes.result (error_of_node e) c.from_residual-in_err-nodes.ensures.1
    (nodes_told tiles root (tag_is root (codes "rr_graph") (sym c.if-not-has_tag.ensures)) c.in_ok-switches.switches c.in_ok-switches.ensures.read
    c.in_ok-layout.layout c.in_ok-layout.ensures.0 e c.in_err-nodes.ensures)

pub returns-in_err-edges : goal.returns-in_err-edges
returns-in_err-edges c =
    let tiles = c.args.arch.now.tiles in
    let root = c.args.root in
    let e = c.in_err-edges.field-0.0 in
    let stay = edges_stay root c.without-root.result c.without-root.ensures in
    passed (SaysGraph tiles root) (OrShort (RootFails tiles root)) c.from_residual-in_err-edges.result (error_of_edge e) c.from_residual-in_err-edges.ensures.1
    (edges_told tiles root (tag_is root (codes "rr_graph") (sym c.if-not-has_tag.ensures)) c.in_ok-switches.switches c.in_ok-switches.ensures.read
    c.in_ok-layout.layout c.in_ok-layout.ensures.0 c.in_ok-nodes.nodes c.in_ok-nodes.ensures e
    (same_refused c.new-ends.result.nodes c.in_ok-nodes.nodes c.new-ends.ensures.nodes c.new-ends.result.switches c.in_ok-switches.switches c.new-ends.ensures.switches
    (edges_of c.without-root.result) (edges_of root) stay e c.in_err-edges.ensures.refused))

pub wires_of-requires : goal.wires_of-requires
wires_of-requires c =
    let tiles = c.args.arch.now.tiles in
    let root = c.args.root in
    let l = c.in_ok-layout.layout in
    let nodes = c.into_nodes-nodes.result in
    let edges = c.in_ok-edges.edges.kept in
    let rules : Rules = record { found = c.found_pins.ensures.found; one_side = c.found_pins.ensures.one_side; kinds = c.found_kinds.ensures; one_wire = c.one_wire.ensures } in
    let said = subst (SaysNodes (pin_of l) (node_elems root)) (sym (c.into_nodes-nodes.ensures ∙ c.new-ends.ensures.nodes)) c.in_ok-nodes.ensures in
    let stay = edges_stay root c.without-root.result c.without-root.ensures in
    let edges_said = same_said c.new-ends.result.nodes nodes (sym c.into_nodes-nodes.ensures) c.new-ends.result.switches c.in_ok-switches.switches c.new-ends.ensures.switches
    (edges_of c.without-root.result) (edges_of root) stay edges c.in_ok-edges.ensures.ok in
    all_ends rules tiles root l c.in_ok-layout.ensures c.in_ok-switches.switches nodes said edges edges_said c.as_slice.result.now c.as_slice.ensures

pub returns-in_err-wires : goal.returns-in_err-wires
returns-in_err-wires c =
    let tiles = c.args.arch.now.tiles in
    passed (SaysGraph tiles c.args.root) (OrShort (RootFails tiles c.args.root)) c.from_residual-in_err-wires.result OutOfMemory c.from_residual-in_err-wires.ensures.1 (inl refl)

pub of_parts-requires : goal.of_parts-requires
of_parts-requires c =
    let tiles = c.args.arch.now.tiles in
    let root = c.args.root in
    let l = c.in_ok-layout.layout in
    let nodes = c.into_nodes-nodes.result in
    let edges = c.in_ok-edges.edges.kept in
    let rules : Rules = record { found = c.found_pins.ensures.found; one_side = c.found_pins.ensures.one_side; kinds = c.found_kinds.ensures; one_wire = c.one_wire.ensures } in
    let said = subst (SaysNodes (pin_of l) (node_elems root)) (sym (c.into_nodes-nodes.ensures ∙ c.new-ends.ensures.nodes)) c.in_ok-nodes.ensures in
    let stay = edges_stay root c.without-root.result c.without-root.ensures in
    let edges_said = same_said c.new-ends.result.nodes nodes (sym c.into_nodes-nodes.ensures) c.new-ends.result.switches c.in_ok-switches.switches c.new-ends.ensures.switches
    (edges_of c.without-root.result) (edges_of root) stay edges c.in_ok-edges.ensures.ok in
    sound_graph rules tiles root l c.in_ok-layout.ensures c.in_ok-switches.switches nodes said edges edges_said c.as_slice.result.now c.as_slice.ensures c.in_ok-wires.wires c.in_ok-wires.ensures
    c.law-2.ensures

pub returns : goal.returns
returns c =
    let tiles = c.args.arch.now.tiles in
    let root = c.args.root in
    let l = c.in_ok-layout.layout in
    let nodes = c.into_nodes-nodes.result in
    let edges = c.in_ok-edges.edges.kept in
    let rules : Rules = record { found = c.found_pins.ensures.found; one_side = c.found_pins.ensures.one_side; kinds = c.found_kinds.ensures; one_wire = c.one_wire.ensures } in
    let said = subst (SaysNodes (pin_of l) (node_elems root)) (sym (c.into_nodes-nodes.ensures ∙ c.new-ends.ensures.nodes)) c.in_ok-nodes.ensures in
    let stay = edges_stay root c.without-root.result c.without-root.ensures in
    let edges_said = same_said c.new-ends.result.nodes nodes (sym c.into_nodes-nodes.ensures) c.new-ends.result.switches c.in_ok-switches.switches c.new-ends.ensures.switches
    (edges_of c.without-root.result) (edges_of root) stay edges c.in_ok-edges.ensures.ok in
    rw c.of_parts.ensures
    (says_graph rules tiles root l c.in_ok-layout.ensures c.in_ok-switches.switches nodes said edges edges_said c.as_slice.result.now c.as_slice.ensures c.in_ok-wires.wires c.in_ok-wires.ensures
    (tag_is root (codes "rr_graph") (sym c.if-not-has_tag.ensures)) c.in_ok-switches.ensures.read)
