-- What one `edge` of a routing graph file says, or why it says nothing.
use Rattle.std.specs.Prelude.{◌≡◌, ℕ, Option, Some, None}
use Rattle.elem_text.specs.declared.elem.Elem.{Elem}
use Rattle.rr_items.specs.declared.ends.EdgeEnds.{EdgeEnds}
use Rattle.rr_items.specs.declared.nodes.NodeKind.{NodeKind}
use Rattle.rr_items.specs.Ends.{SaysEnds}
use Rattle.rr_items.specs.Features.{edge_features}
use Rattle.rr_edges.specs.declared.error.EdgeError.{EdgeError}
use Rattle.rr_edges.specs.declared.error.EdgeError.TheVariants.{BadEdge, SwitchKind, OutOfMemory}
use Rattle.rr_edges.specs.declared.joints.Joint.{Joint}
use Rattle.rr_edges.specs.declared.joints.Joint.TheVariants.{Kept, PassedOver}
use Rattle.rr_edges.specs.declared.kept.FileEdge.{FileEdge}
use Rattle.rr_edges.specs.declared.table.Direction.{Direction}
use Rattle.rr_edges.specs.declared.table.Direction.TheVariants.{OneWay, BothWays}
use Rattle.rr_edges.specs.Joints.{Joins}
use Rattle.rr_edges.specs.Known.{Known}

-- the element names two nodes and a switch of the file, and may join the nodes
pub record Names (known : Known) (e : Elem) (ends : EdgeEnds) (joint : Joint) (ways : Direction) :
    Type 0 where
  pub says : SaysEnds e ends
  pub from : NodeKind
  pub to : NodeKind
  pub source : known.kind ends.source ≡ Some from
  pub sink : known.kind ends.sink ≡ Some to
  pub switch : known.ways ends.switch ≡ Some ways
  pub joins : Joins joint from to

-- it names or joins no such things
abbrev pub IsBad : Known → Elem → Type 0
IsBad known e =
    (ends : EdgeEnds) (joint : Joint) (ways : Direction) → Names known e ends joint ways → ⊥

-- it names and joins them, by the switch of this id, which leads both ways
pub record UsesBothWays (known : Known) (e : Elem) (id : ℕ) : Type 0 where
  pub ends : EdgeEnds
  pub joint : Joint
  pub names : Names known e ends joint BothWays
  pub is : id ≡ ends.switch

abbrev pub ends_of : FileEdge → EdgeEnds
ends_of edge = record { source = edge.src; sink = edge.dst; switch = edge.switch }

-- it names and joins them, by a switch that leads one way: the edge is kept with its features, or
-- passed over
abbrev pub Says : Known → Elem → Option FileEdge → Type 0
Says known e (Some edge) =
    Names known e (ends_of edge) Kept OneWay × (edge.features ≡ edge_features e)
Says known e None = (ends : EdgeEnds) × Names known e ends PassedOver OneWay

-- how the edge of this index fails
abbrev pub Fails : Known → ℕ → Elem → EdgeError → Type 0
Fails known index e (BadEdge number) = (number ≡ index) × IsBad known e
Fails known index e (SwitchKind id) = UsesBothWays known e id
Fails known index e OutOfMemory = ⊥
