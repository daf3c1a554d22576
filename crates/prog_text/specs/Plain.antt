-- Block types whose names can be written: so that a line divides into its words, and no two
-- instances or pins are written alike.
use Rattle.std.specs.Prelude.{◌≡◌, ◌≢◌, ◌==◌, ◌||◌, ◌<◌, ◌^◌, ℕ, Bool, not, List, [], Some, slice_get, IsUtf8}
use Rattle.std.specs.List.{AllPass}
use Rattle.vtr_base.specs.Spans.{is_white}
use Rattle.arch_types.specs.declared.block.PbType.{PbType}
use Rattle.arch_types.specs.declared.block.Port.{Port}
use Rattle.arch_types.specs.declared.block.Mode.{Mode}
use Rattle.arch_types.specs.Tree.{modes_of, kids_of, name_of_mode}
use Rattle.arch_types.specs.Address.{Address, at}

-- no white space, and none of `/ : . [ ]`
abbrev pub is_name_byte : ℕ → Bool
is_name_byte b = not (is_white b || ((b == 47) || ((b == 58) || ((b == 46) || ((b == 91) || (b == 93))))))

-- a name has a byte, is UTF-8, and has no byte that divides it
pub record IsName (name : List ℕ) : Type 0 where
  pub some : name ≢ []
  pub utf8 : IsUtf8 name
  pub whole : AllPass is_name_byte name

-- the modes of a pb_type have names, and different ones
pub record AreModesNamed (modes : List Mode) : Type 0 where
  pub named : (i : ℕ) (m : Mode) → slice_get modes i ≡ Some m → IsName (name_of_mode m)
  pub differ : (i j : ℕ) (m n : Mode) → slice_get modes i ≡ Some m → slice_get modes j ≡ Some n → name_of_mode m ≡ name_of_mode n → i ≡ j

-- the children in a mode have different names
abbrev pub DoKidsDiffer : List PbType → Type 0
DoKidsDiffer kids = (i j : ℕ) (p q : PbType) → slice_get kids i ≡ Some p → slice_get kids j ≡ Some q → p.name ≡ q.name → i ≡ j

-- the ports have names, and different ones, and so few pins that 32 bits number them
pub record ArePortsNamed (ports : List Port) : Type 0 where
  pub named : (i : ℕ) (p : Port) → slice_get ports i ≡ Some p → IsName p.name
  pub narrow : (i : ℕ) (p : Port) → slice_get ports i ≡ Some p → p.width < 2 ^ 32
  pub differ : (i j : ℕ) (p q : Port) → slice_get ports i ≡ Some p → slice_get ports j ≡ Some q → p.name ≡ q.name → i ≡ j

pub record IsWellNamed (block : PbType) : Type 0 where
  pub name : IsName block.name
  pub count : block.count < 2 ^ 32
  pub modes : AreModesNamed (modes_of block.kind)
  pub kids : (i : ℕ) (m : Mode) → slice_get (modes_of block.kind) i ≡ Some m → DoKidsDiffer (kids_of m)
  pub ports : ArePortsNamed block.ports

-- so are the pb_types of all instances
abbrev pub HasPlainNames : PbType → Type 0
HasPlainNames root = (a : Address) (block : PbType) → at root a ≡ Some block → IsWellNamed block
