-- Leaves of a block type, and the inputs and the output of a LUT.
use Rattle.std.specs.Prelude.{◌≡◌, ◌<◌, ◌^◌, ℕ, List, Option, Some, map, slice_get}
use Rattle.std.specs.Option.{option_map, option_and_then}
use Rattle.vtr_base.specs.Lists.{IsFirstPlace}
use Rattle.arch_types.specs.declared.block.PbType.{PbType}
use Rattle.arch_types.specs.declared.block.Port.{Port}
use Rattle.arch_types.specs.declared.block.Side.{Side}
use Rattle.arch_types.specs.declared.block.Side.TheVariants.{Input, Output}
use Rattle.arch_types.specs.declared.block.AtomKind.{AtomKind}
use Rattle.arch_types.specs.declared.block.AtomKind.TheVariants.{Lut}
use Rattle.pb_expand.specs.declared.number.PbKind.{PbKind}
use Rattle.pb_expand.specs.declared.number.PbKind.TheVariants.{Leaf, Modes}
use Rattle.pb_expand.specs.declared.number.PinAt.{PinAt}
use Rattle.pb_expand.specs.Graph.{Graph, block_at, kind_of}

-- the port of a pin
abbrev pub port_at : Graph → PinAt → Option Port
port_at g pin = option_and_then (λ (block : PbType). slice_get block.ports pin.port) (block_at g pin.pb.0)

-- what the instance of number n is
abbrev pub kind_at : Graph → ℕ → Option PbKind
kind_at g n = option_map (λ (block : PbType). kind_of block.kind) (block_at g n)

-- the instance is a leaf
pub record IsLeaf (g : Graph) (n : ℕ) : Type 0 where
  pub atom : AtomKind
  pub is : kind_at g n ≡ Some (Leaf atom)

-- the instance has modes
pub record HasModes (g : Graph) (n : ℕ) : Type 0 where
  pub count : ℕ
  pub is : kind_at g n ≡ Some (Modes count)

-- the instance is a LUT
abbrev pub IsLut : Graph → ℕ → Type 0
IsLut g n = kind_at g n ≡ Some (Leaf Lut)

abbrev pub sides_of : List Port → List Side
sides_of ports = map (λ (port : Port). port.side) ports

-- the LUT reads through the port at that place, its first input port, and has `width` inputs
pub record AreInputs (g : Graph) (n place width : ℕ) : Type 0 where
  pub lut : IsLut g n
  pub ports : List Port
  pub are : option_map (λ (block : PbType). block.ports) (block_at g n) ≡ Some ports
  pub first : IsFirstPlace (sides_of ports) Input place
  pub port : Port
  pub there : slice_get ports place ≡ Some port
  pub wide : width ≡ port.width
  pub counted : place < 2 ^ 32

-- the pin is of an output port
pub record IsOutput (g : Graph) (pin : PinAt) : Type 0 where
  pub port : Port
  pub is : port_at g pin ≡ Some port
  pub side : port.side ≡ Output
