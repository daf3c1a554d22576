-- What the accessors of a routing graph answer.
use Rattle.std.specs.Prelude.{◌≡◌, ℕ, List, Some, slice_get}
use Rattle.rr_edges.specs.declared.kept.FileEdge.{FileEdge}
use Rattle.rr_locs.specs.declared.roots.LocAt.{LocAt}
use Rattle.rr_wires.specs.declared.types.OwnedEdge.{OwnedEdge}
use Rattle.rr_tables.specs.Layouts.{HasClassAt}
use Rattle.rr_files.specs.Parts.{GraphParts}

-- the class of a pin of the location of this number
pub record HasClass (g : GraphParts) (number port bit class : ℕ) : Type 0 where
  pub loc : LocAt
  pub at : slice_get g.layout.locs number ≡ Some loc
  pub is : HasClassAt g.layout loc port bit class

-- the features of the edge that owns the pair of wires of this number
pub record HasFeatures (g : GraphParts) (number : ℕ) (features : List ℕ) : Type 0 where
  pub owned : OwnedEdge
  pub at : slice_get g.wires.edges number ≡ Some owned
  pub edge : FileEdge
  pub there : slice_get g.edges owned.place ≡ Some edge
  pub is : features ≡ edge.features
