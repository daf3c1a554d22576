-- The parts of a graph that was made are tied.
use Rattle.std.proofs.Common.{◌≡◌, ◌<◌, ◌≤◌, ◌^◌, List, length, sym, ap, ◌∙◌, subst, arith}
use Rattle.arch_types.specs.declared.block.PbType.{PbType}
use Rattle.arch_types.specs.Address.{instances_of}
use Rattle.arch_types.specs.Numbering.{IsNumbering}
use Rattle.arch_types.proofs.Numbered.{is_numbering}
use Rattle.flat_tables.specs.Groups.{groups_of}
use Rattle.pb_expand.specs.declared.graph.PbGraph.TheInside.{Inside}
use Rattle.pb_expand.specs.Graph.{pins_of, pins_from}
use Rattle.pb_expand.specs.Rows.{addresses, IsTree}
use Rattle.pb_expand.specs.Ends.{pairs_from}
use Rattle.pb_expand.specs.Types.{modes_in_tree}
use Rattle.pb_expand.specs.Refusals.{AreSound, IsTooLarge}
use Rattle.pb_expand.specs.Shapes.{AreShapes}
use Rattle.pb_expand.specs.Tied.{graph_of, IsTied}
use Rattle.pb_expand.specs.Making.{AreBlocks, AreShort, AreBefore, AreFirsts}
use Rattle.pb_expand.proofs.RowLemmas.{length-addresses}
use Rattle.pb_expand.proofs.PinLemmas.{pins_numbered, pins_over_are}
use Rattle.pb_expand.proofs.EdgeList.{has_edges, short_at}
use Rattle.pb_expand.proofs.ShapeLemmas.{shapes_are}

pub tied : (g : Inside) (blocks : List PbType) → IsTree g.rows.keys → addresses g.rows.keys ≡ instances_of g.root → AreBlocks g.root (instances_of g.root) blocks →
    AreShort blocks → g.pins.keys ≡ pins_of g.root → length g.rows.keys ≤ 1048575 → length g.pins.keys ≤ 1048576 →
    AreBefore blocks (addresses g.rows.keys) g.pins.keys (length blocks) 0 g.edges.items → length g.edges.items ≤ 4194304 → g.block < 2 ^ 32 →
    AreSound (modes_in_tree g.root) → (IsTooLarge g.root → ⊥) → g.into ≡ groups_of (pairs_from (λ e. e.dst.0) 0 g.edges.items) (length g.pins.keys) →
    g.out_of ≡ groups_of (pairs_from (λ e. e.src.0) 0 g.edges.items) (length g.pins.keys) → AreFirsts (instances_of g.root) g.firsts.items →
    AreShapes blocks g.shapes.items → IsTied g
tied g blocks tree instances are short pins few_rows few_pins before few_edges number sound fits into out_of firsts shapes =
    let here = subst (λ l. AreBlocks g.root l blocks) (sym instances) are in
    let from = pins ∙ ap (λ l. pins_from g.root 0 l) (sym instances) in
    let has_pins = pins_numbered (graph_of g) from in
    let over = pins ∙ sym (pins_over_are g.root 0 blocks (instances_of g.root) are.all are.each) in
    record {
      law = record {
        instances = instances;
        pins = pins;
        numbering = subst (λ l. IsNumbering g.root l) (sym instances) (is_numbering g.root);
        has_pins = has_pins;
        has_edges = has_edges (graph_of g) blocks here before;
        few_instances = omega (arith, length-addresses g.rows.keys, few_rows);
        few_pins = few_pins;
        few_edges = few_edges;
      };
      number = number;
      sound = sound;
      fits = fits;
      tree = tree;
      short = short_at (graph_of g) blocks here short;
      into = into;
      out_of = out_of;
      firsts = subst (λ l. AreFirsts l g.firsts.items) (sym instances) firsts;
      shapes = shapes_are (graph_of g) blocks g.shapes.items here has_pins over shapes;
    }
