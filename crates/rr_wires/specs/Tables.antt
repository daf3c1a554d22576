-- The pairs of wires that lead into a wire or out of it.
use Rattle.std.specs.Prelude.{◌≡◌, ◌<◌, ◌↔◌, ℕ, List, Some, length, slice_get}
use Rattle.vtr_base.specs.Lists.{Has}
use Rattle.list_laws.specs.Orders.{Ordered}
use Rattle.rr_wires.specs.declared.types.End.{End}
use Rattle.rr_wires.specs.declared.types.End.TheVariants.{Src, Dst}
use Rattle.rr_wires.specs.declared.types.OwnedEdge.{OwnedEdge}
use Rattle.rr_wires.specs.declared.types.REdge.{REdge}
use Rattle.rr_wires.specs.declared.types.REdgeIx.{REdgeIx}
use Rattle.rr_wires.specs.declared.types.WireIx.{WireIx}

abbrev pub end_of : End → REdge → WireIx
end_of Src e = e.src
end_of Dst e = e.dst

-- the pair with this number has the wire as this end
pub record HasEnd (edges : List OwnedEdge) (end : End) (wire : WireIx) (number : REdgeIx) :
    Type 0 where
  pub owned : OwnedEdge
  pub at : slice_get edges number.0 ≡ Some owned
  pub is : end_of end owned.redge ≡ wire

-- the numbers of all pairs that have the wire as this end, ascending
pub record AreEdgesAt (edges : List OwnedEdge) (end : End) (wire : WireIx)
    (list : List REdgeIx) : Type 0 where
  pub ascend : Ordered (λ e f. e.0 < f.0) list
  pub each : (number : REdgeIx) → Has list number ↔ HasEnd edges end wire number

abbrev pub AreEdgesInto : List OwnedEdge → WireIx → List REdgeIx → Type 0
AreEdgesInto edges = AreEdgesAt edges Dst

abbrev pub AreEdgesOutOf : List OwnedEdge → WireIx → List REdgeIx → Type 0
AreEdgesOutOf edges = AreEdgesAt edges Src

-- a table with such a list for each wire
pub record HasLists (edges : List OwnedEdge) (end : End) (wires : ℕ)
    (table : List (List REdgeIx)) : Type 0 where
  pub long : length table ≡ wires
  pub each : (wire : WireIx) (list : List REdgeIx) →
      slice_get table wire.0 ≡ Some list → AreEdgesAt edges end wire list

-- the wires at this end are there
abbrev pub EndsBelow : End → ℕ → List OwnedEdge → Type 0
EndsBelow end wires edges = (o : OwnedEdge) → Has edges o → (end_of end o.redge).0 < wires
