-- What is kept of each instance, so that no look-up goes through the tree.
use Rattle.std.specs.Prelude.{◌≡◌, ◌≤◌, ◌<◌, ◌+◌, ℕ, List, Some, length, slice_get, take, drop}
use Rattle.arch_types.specs.declared.block.PbType.{PbType}
use Rattle.pb_expand.specs.declared.number.PinAt.{PinAt}
use Rattle.pb_expand.specs.declared.shape.Shape.{Shape}
use Rattle.pb_expand.specs.Graph.{Graph, block_at, ports_of, kind_of, pins_of_ports}
use Rattle.pb_expand.specs.Making.{pins_over}

-- the pins of an instance stand together from number `first` on, port by port, and none elsewhere
pub record HasPinsFrom (g : Graph) (pb first : ℕ) : Type 0 where
  pub are : take (length (pins_of_ports pb 0 (ports_of g pb))) (drop first g.pins) ≡ pins_of_ports pb 0 (ports_of g pb)
  pub only : (n : ℕ) (pin : PinAt) → slice_get g.pins n ≡ Some pin → pin.pb.0 ≡ pb → (first ≤ n) × (n < first + length (pins_of_ports pb 0 (ports_of g pb)))

-- an instance of number n among instances of these pb_types
pub record IsShape (blocks : List PbType) (n : ℕ) (block : PbType) (s : Shape) : Type 0 where
  pub kind : s.kind ≡ kind_of block.kind
  pub ports : s.ports ≡ length block.ports
  pub pins : s.pins ≡ length (pins_of_ports n 0 block.ports)
  pub first : s.first_pin.0 + length (pins_over n (drop n blocks)) ≡ length (pins_over 0 blocks)

pub record AreShapes (blocks : List PbType) (shapes : List Shape) : Type 0 where
  pub all : length shapes ≡ length blocks
  pub each : (n : ℕ) (block : PbType) (s : Shape) → slice_get blocks n ≡ Some block → slice_get shapes n ≡ Some s → IsShape blocks n block s

-- what a graph keeps of each of its instances
pub record AreShapesOf (g : Graph) (shapes : List Shape) : Type 0 where
  pub all : length shapes ≡ length g.instances
  pub each : (n : ℕ) (block : PbType) (s : Shape) → block_at g n ≡ Some block → slice_get shapes n ≡ Some s →
      (s.kind ≡ kind_of block.kind) × (s.ports ≡ length block.ports) × (s.pins ≡ length (pins_of_ports n 0 block.ports)) × HasPinsFrom g n s.first_pin.0
