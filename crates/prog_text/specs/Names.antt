-- How instances and pins are written: an instance is the block type's name and `/MODE:CHILD[i]`
-- for each step, and a pin is its instance, a dot, the port, and the bit in brackets.
use Rattle.std.specs.Prelude.{◌≡◌, ◌<◌, ℕ, List, [], ◌∷◌, ◌++◌, Some, slice_get, length}
use Rattle.std.specs.Option.{option_map_or}
use Rattle.std.specs.Fmt.{decimal}
use Rattle.arch_types.specs.declared.block.PbType.{PbType}
use Rattle.arch_types.specs.declared.block.Port.{Port}
use Rattle.arch_types.specs.declared.block.Mode.{Mode}
use Rattle.arch_types.specs.Tree.{modes_of, kids_of, name_of_mode}
use Rattle.arch_types.specs.Address.{Address, at, child_at}
use Rattle.pb_expand.specs.declared.number.PinAt.{PinAt}
use Rattle.pb_expand.specs.Graph.{Graph, LeadsTo, block_at, mode_at, step_from}
use Rattle.prog_map.specs.Leaves.{port_at}

-- `[n]`
abbrev pub index_text : ℕ → List ℕ
index_text n = 91 ∷ (decimal n ++ 93 ∷ [])

-- `/MODE:CHILD[i]`
abbrev pub step_text : List ℕ → List ℕ → ℕ → List ℕ
step_text mode child instance = 47 ∷ (mode ++ 58 ∷ (child ++ index_text instance))

-- the name of a mode of a pb_type
abbrev pub mode_text : PbType → ℕ → List ℕ
mode_text block mode = option_map_or name_of_mode (slice_get (modes_of block.kind) mode) []

-- the steps of an address, from a pb_type on
abbrev pub steps_text : PbType → Address → List ℕ
steps_text block [] = []
steps_text block (hop ∷ hops) =
    option_map_or (λ (kid : PbType). step_text (mode_text block hop.mode) kid.name hop.instance ++ steps_text kid hops) (child_at block hop) []

-- how the instance of number n is written
abbrev pub instance_name : Graph → ℕ → List ℕ
instance_name g n = option_map_or (λ (address : Address). g.root.name ++ steps_text g.root address) (slice_get g.instances n) []

abbrev pub port_text : Graph → PinAt → List ℕ
port_text g pin = option_map_or (λ (port : Port). port.name) (port_at g pin) []

abbrev pub pin_text : Graph → PinAt → List ℕ
pin_text g pin = instance_name g pin.pb.0 ++ 46 ∷ (port_text g pin ++ index_text pin.bit)

-- how the pin of number n is written
abbrev pub pin_name : Graph → ℕ → List ℕ
pin_name g n = option_map_or (pin_text g) (slice_get g.pins n) []

-- the bytes name the instance of number n
pub record NamesInstance (g : Graph) (text : List ℕ) (n : ℕ) : Type 0 where
  pub there : n < length g.instances
  pub spelled : text ≡ instance_name g n

-- the bytes name the pin of number n
pub record NamesPin (g : Graph) (text : List ℕ) (n : ℕ) : Type 0 where
  pub there : n < length g.pins
  pub spelled : text ≡ pin_name g n

-- the bytes name a mode of the instance of number n
pub record NamesMode (g : Graph) (n : ℕ) (text : List ℕ) (mode : ℕ) : Type 0 where
  pub is : Mode
  pub there : mode_at g n mode ≡ Some is
  pub spelled : text ≡ name_of_mode is

-- the bytes name a child in a mode of the instance of number n
pub record NamesChild (g : Graph) (n mode : ℕ) (text : List ℕ) (child : ℕ) : Type 0 where
  pub is_in : Mode
  pub there : mode_at g n mode ≡ Some is_in
  pub is : PbType
  pub is_child : slice_get (kids_of is_in) child ≡ Some is
  pub spelled : text ≡ is.name

-- the bytes name a port of the instance of number n
pub record NamesPort (g : Graph) (n : ℕ) (text : List ℕ) (port : ℕ) : Type 0 where
  pub block : PbType
  pub is_block : block_at g n ≡ Some block
  pub is : Port
  pub there : slice_get block.ports port ≡ Some is
  pub spelled : text ≡ is.name
