-- Nodes (VPR's routing graph files: `node` with `id` and `type`, and its first `loc` with `xlow`,
-- `xhigh`, `ylow`, `yhigh`, `ptc` and `layer`).
use Rattle.std.specs.Prelude.{◌≡◌, ◌≤◌, ◌⊎◌, ℕ, List, Option, Some, None, codes}
use Rattle.std.specs.Str.Parse.{IsNumeral}
use Rattle.elem_text.specs.declared.elem.Elem.{Elem}
use Rattle.elem_attrs.specs.Attributes.{HasAttribute, LacksAttribute}
use Rattle.elem_reading.specs.AttributeNumbers.{HasNumber}
use Rattle.elem_reading.specs.Kids.{first_kid}
use Rattle.rr_items.specs.declared.nodes.NodeKind.{NodeKind}
use Rattle.rr_items.specs.declared.nodes.NodeKind.TheVariants.{Source, Sink, Opin, Ipin, Chanx, Chany}
use Rattle.rr_items.specs.declared.nodes.Span.{Span}
use Rattle.rr_items.specs.declared.nodes.Node.{Node}
use Rattle.rr_items.specs.declared.nodes.NodeFault.{NodeFault}
use Rattle.rr_items.specs.declared.nodes.NodeFault.TheVariants.{Item, Layer}
use Rattle.rr_items.specs.Ground.{IsOnGround}

-- the name of a kind of node
abbrev pub kind_name : NodeKind → List ℕ
kind_name Source = codes "SOURCE"
kind_name Sink = codes "SINK"
kind_name Opin = codes "OPIN"
kind_name Ipin = codes "IPIN"
kind_name Chanx = codes "CHANX"
kind_name Chany = codes "CHANY"

abbrev pub HasKind : Elem → NodeKind → Type 0
HasKind e kind = HasAttribute e (codes "type") (kind_name kind)

-- ids and places of a routing graph file are below 2^31, and a low end isn't above its high end
pub record SaysSpan (loc : Elem) (span : Span) : Type 0 where
  pub x_low : HasNumber loc (codes "xlow") 2147483647 span.x_low
  pub x_high : HasNumber loc (codes "xhigh") 2147483647 span.x_high
  pub y_low : HasNumber loc (codes "ylow") 2147483647 span.y_low
  pub y_high : HasNumber loc (codes "yhigh") 2147483647 span.y_high
  pub x_up : span.x_low ≤ span.x_high
  pub y_up : span.y_low ≤ span.y_high

-- the number of a pin is read
abbrev pub NumbersPin : Elem → Option ℕ → Type 0
NumbersPin loc None = ⊥
NumbersPin loc (Some pin) = HasNumber loc (codes "ptc") 2147483647 pin

-- of pin nodes alone
abbrev pub SaysPin : Elem → NodeKind → Option ℕ → Type 0
SaysPin loc Source pin = pin ≡ None
SaysPin loc Sink pin = pin ≡ None
SaysPin loc Opin pin = NumbersPin loc pin
SaysPin loc Ipin pin = NumbersPin loc pin
SaysPin loc Chanx pin = pin ≡ None
SaysPin loc Chany pin = pin ≡ None

-- the element has no layer, or one that is a number
abbrev pub HasLayer : Elem → Type 0
HasLayer loc =
    LacksAttribute loc (codes "layer") ⊎
    ((value : List ℕ) × HasAttribute loc (codes "layer") value × IsNumeral 10 value)

-- the element and its `loc` say the node, whatever their layer
pub record SaysNodeAt (e loc : Elem) (node : Node) : Type 0 where
  pub id : HasNumber e (codes "id") 2147483647 node.id
  pub kind : HasKind e node.kind
  pub span : SaysSpan loc node.span
  pub pin : SaysPin loc node.kind node.pin
  pub layer : HasLayer loc

-- the element says the node with its first `loc`
pub record SaysNode (e : Elem) (node : Node) : Type 0 where
  pub loc : Elem
  pub first : first_kid e (codes "loc") ≡ Some loc
  pub says : SaysNodeAt e loc node

-- and it stands in layer 0
pub record IsNodeOnGround (e : Elem) (node : Node) : Type 0 where
  pub says : SaysNode e node
  pub ground : IsOnGround says.loc

-- what is wrong with the item is told before another layer
abbrev pub IsNodeFault : Elem → NodeFault → Type 0
IsNodeFault e Item = (node : Node) → SaysNode e node → ⊥
IsNodeFault e Layer = (node : Node) × (said : SaysNode e node) × (IsOnGround said.loc → ⊥)
