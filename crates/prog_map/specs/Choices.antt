-- A programming of one block type: a finite map from its sites to choices. A site is the mode of an
-- instance, a pin in one mode, the use of a leaf, or what a LUT holds; a site without a choice is
-- off.
use Rattle.std.specs.Prelude.{◌≡◌, ◌<◌, ◌^◌, ◌⊎◌, ℕ, Bool, true, List, Option, Some, IsSome, slice_get, length, refl}
use mathlib.Core.Logic.{inl, inr}
use Rattle.std.specs.Coded.{Coded, code_by, coded×, coded⊎, coded_ℕ, coded_bool, coded_list}
use Rattle.std.specs.Ordering.{nat_cmp, ordering_then}
use Rattle.std.specs.declared.cmp.Ordering.{Ordering}
use Rattle.std.specs.FinMap as map
use Rattle.std.specs.FinSet as set
use Rattle.pb_expand.specs.declared.number.Edge.{Edge}
use Rattle.pb_expand.specs.Graph.{Graph, mode_at}
use Rattle.prog_map.specs.declared.choice.LutChoice.{LutChoice}
use Rattle.prog_map.specs.declared.choice.LutChoice.TheVariants.{Wire, Table}
use Rattle.prog_map.specs.Leaves.{IsLeaf, AreInputs}

-- a pin in one mode: by the pin, then by the mode
abbrev pub site_cmp : ℕ × ℕ → ℕ × ℕ → Ordering
site_cmp x y = ordering_then (nat_cmp x.0 y.0) (nat_cmp x.1 y.1)

-- the choices by number: of an instance its mode, of a pin in a mode the edge that it takes, the
-- leaves that are used, and what LUTs hold
pub record Choices : Type 0 where
  pub modes : map.FinMap nat_cmp ℕ
  pub picks : map.FinMap site_cmp ℕ
  pub leaves : set.FinSet nat_cmp
  pub luts : map.FinMap nat_cmp LutChoice

abbrev pub choices_at : map.FinMap nat_cmp ℕ → map.FinMap site_cmp ℕ → set.FinSet nat_cmp → map.FinMap nat_cmp LutChoice → Choices
choices_at modes picks leaves luts = record { modes = modes; picks = picks; leaves = leaves; luts = luts }

-- what a LUT holds is stored as the number of an input, or as the bits of a table
abbrev pub lut_parts : LutChoice → ℕ ⊎ List Bool
lut_parts (Wire input) = inl input
lut_parts (Table table) = inr table

abbrev pub lut_of_parts : ℕ ⊎ List Bool → LutChoice
lut_of_parts (inl input) = Wire input
lut_of_parts (inr table) = Table table

pub same_lut : (c : LutChoice) → lut_of_parts (lut_parts c) ≡ c
same_lut (Wire input) = refl
same_lut (Table table) = refl

abbrev pub lut_code : Coded LutChoice
lut_code = code_by (ℕ ⊎ List Bool) (coded⊎ coded_ℕ (coded_list coded_bool)) lut_parts lut_of_parts same_lut

-- choices are stored as the four maps
abbrev pub choices_code : Coded Choices
choices_code =
    code_by ((map.FinMap nat_cmp ℕ × map.FinMap site_cmp ℕ) × (set.FinSet nat_cmp × map.FinMap nat_cmp LutChoice))
    (coded× (coded× (map.code coded_ℕ coded_ℕ) (map.code (coded× coded_ℕ coded_ℕ) coded_ℕ)) (coded× (set.code coded_ℕ) (map.code coded_ℕ lut_code)))
    (λ c. ((c.modes, c.picks), (c.leaves, c.luts))) (λ p. choices_at p.0.0 p.0.1 p.1.0 p.1.1) (λ _. refl)

abbrev pub no_choices : Choices
no_choices = choices_at map.empty map.empty set.empty map.empty

abbrev pub mode_of : Choices → ℕ → Option ℕ
mode_of c pb = map.get c.modes pb

abbrev pub pick_of : Choices → ℕ → ℕ → Option ℕ
pick_of c pin mode = map.get c.picks (pin, mode)

abbrev pub is_used : Choices → ℕ → Bool
is_used c pb = set.contains c.leaves pb

abbrev pub lut_of : Choices → ℕ → Option LutChoice
lut_of c pb = map.get c.luts pb

abbrev pub with_mode : Choices → ℕ → ℕ → Choices
with_mode c pb mode = choices_at (map.insert c.modes pb mode) c.picks c.leaves c.luts

abbrev pub with_pick : Choices → ℕ → ℕ → ℕ → Choices
with_pick c pin mode edge = choices_at c.modes (map.insert c.picks (pin, mode) edge) c.leaves c.luts

abbrev pub with_used : Choices → ℕ → Choices
with_used c pb = choices_at c.modes c.picks (set.insert c.leaves pb) c.luts

abbrev pub with_lut : Choices → ℕ → LutChoice → Choices
with_lut c pb choice = choices_at c.modes c.picks c.leaves (map.insert c.luts pb choice)

-- the choice names what is there: a mode of the instance
abbrev pub IsModeOf : Graph → ℕ → ℕ → Type 0
IsModeOf g pb mode = IsSome (mode_at g pb mode)

-- the choice names what is there: an edge into the pin in that mode
pub record IsEdgeInto (g : Graph) (pin mode number : ℕ) : Type 0 where
  pub edge : Edge
  pub there : slice_get g.edges number ≡ Some edge
  pub ends : edge.dst.0 ≡ pin
  pub in_mode : edge.mode ≡ mode

-- the choice fits a LUT of so many inputs: it is one of them, or a table of 2^width bits
abbrev pub Fits : ℕ → LutChoice → Type 0
Fits width (Wire input) = input < width
Fits width (Table table) = length table ≡ 2 ^ width

-- the instance is a LUT that can hold this
pub record IsLutChoice (g : Graph) (pb : ℕ) (choice : LutChoice) : Type 0 where
  pub port : ℕ
  pub width : ℕ
  pub inputs : AreInputs g pb port width
  pub fits : Fits width choice

-- the choices are a programming of the graph: each choice is one of its site
pub record IsProgOf (g : Graph) (c : Choices) : Type 0 where
  pub modes : (pb mode : ℕ) → mode_of c pb ≡ Some mode → IsModeOf g pb mode
  pub picks : (pin mode number : ℕ) → pick_of c pin mode ≡ Some number → IsEdgeInto g pin mode number
  pub leaves : (pb : ℕ) → is_used c pb ≡ true → IsLeaf g pb
  pub luts : (pb : ℕ) (choice : LutChoice) → lut_of c pb ≡ Some choice → IsLutChoice g pb choice
