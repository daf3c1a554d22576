-- The edges of a routing graph file (VPR's routing graph files: `rr_edges` with its `edge`s).
use Rattle.std.specs.Prelude.{◌≡◌, ℕ, List, [], ◌∷◌, Some, None, codes, take, slice_get}
use Rattle.elem_text.specs.declared.elem.Elem.{Elem}
use Rattle.elem_reading.specs.Kids.{kids_under}
use Rattle.rr_edges.specs.declared.error.EdgeError.{EdgeError}
use Rattle.rr_edges.specs.declared.kept.FileEdge.{FileEdge}
use Rattle.rr_edges.specs.EdgeItems.{Says, Fails}
use Rattle.rr_edges.specs.Known.{Known}

-- the file's edges in their order
abbrev pub edges_of : Elem → List Elem
edges_of root = kids_under root (codes "rr_edges") (codes "edge")

-- each element says an edge: one that is passed over, or the next of those that are kept
pub data SaysEdges (known : Known) : List Elem → List FileEdge → Type 0 where
  none : SaysEdges known [] []
  over : (e : Elem) (es : List Elem) (edges : List FileEdge) →
      Says known e None → SaysEdges known es edges → SaysEdges known (e ∷ es) edges
  kept : (e : Elem) (es : List Elem) (edge : FileEdge) (edges : List FileEdge) →
      Says known e (Some edge) → SaysEdges known es edges →
      SaysEdges known (e ∷ es) (edge ∷ edges)

-- an element fails so, and those before it say edges
pub record Refuses (known : Known) (es : List Elem) (error : EdgeError) : Type 0 where
  pub index : ℕ
  pub edge : Elem
  pub at : slice_get es index ≡ Some edge
  pub before : List FileEdge
  pub said : SaysEdges known (take index es) before
  pub fails : Fails known index edge error
