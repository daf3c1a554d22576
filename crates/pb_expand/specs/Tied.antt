-- The arrays of a `PbGraph` and the graph that they say.
use Rattle.std.specs.Prelude.{◌≡◌, ◌<◌, ◌^◌, ℕ, Some, length}
use Rattle.arch_types.specs.declared.block.PbType.{PbType}
use Rattle.arch_types.specs.Tree.{modes_of}
use Rattle.pb_expand.specs.declared.graph.PbGraph.TheInside.{Inside}
use Rattle.pb_expand.specs.Graph.{Graph, block_at}
use Rattle.pb_expand.specs.Rows.{addresses, IsTree}
use Rattle.flat_tables.specs.Groups.{groups_of}
use Rattle.pb_expand.specs.Making.{AreFirsts}
use Rattle.pb_expand.specs.Ends.{pairs_from}
use Rattle.pb_expand.specs.Shapes.{AreShapesOf}
use Rattle.pb_expand.specs.Types.{modes_in_tree}
use Rattle.pb_expand.specs.Refusals.{AreSound, IsTooLarge}
use Rattle.pb_expand.specs.Expansion.{IsExpansion}

abbrev pub graph_of : Inside → Graph
graph_of g = record {
  block = g.block;
  root = g.root;
  instances = addresses g.rows.keys;
  pins = g.pins.keys;
  edges = g.edges.items;
}

pub record IsTied (g : Inside) : Type 0 where
  pub law : IsExpansion (graph_of g)
  pub number : g.block < 2 ^ 32
  pub sound : AreSound (modes_in_tree g.root)
  pub fits : IsTooLarge g.root → ⊥
  pub tree : IsTree g.rows.keys
  pub short : (n : ℕ) (block : PbType) → block_at (graph_of g) n ≡ Some block → (length (modes_of block.kind) < 2 ^ 32) × (length block.ports < 2 ^ 32)
  pub into : g.into ≡ groups_of (pairs_from (λ e. e.dst.0) 0 g.edges.items) (length g.pins.keys)
  pub out_of : g.out_of ≡ groups_of (pairs_from (λ e. e.src.0) 0 g.edges.items) (length g.pins.keys)
  pub firsts : AreFirsts (addresses g.rows.keys) g.firsts.items
  pub shapes : AreShapesOf (graph_of g) g.shapes.items
