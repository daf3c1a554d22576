-- The fields of the LUTs that an owner holds, and lines whose fields have another width than a table of
-- a LUT that uses them (FPGA assembly metadata: `fasm_lut`).
use Rattle.std.specs.Prelude.{◌≡◌, ◌+◌, ◌-◌, ◌^◌, ◌≤◌, ◌⊎◌, ℕ, List, [], ◌∷◌, Option, MatchOption}
use Rattle.arch_types.specs.declared.block.PbType.{PbType}
use Rattle.arch_types.specs.declared.block.Mode.{Mode}
use Rattle.meta_lines.specs.declared.types.Field.{Field}
use Rattle.meta_lines.specs.declared.types.ChildField.{ChildField}
use Rattle.meta_said.specs.declared.types.LutFields.{LutFields}
use Rattle.meta_said.specs.declared.types.LutFields.TheVariants.{One, Children}
use Rattle.lut_widths.specs.Held.{IsLutOf, HoldsInMode, HoldsInside}

-- how many bits a field has
abbrev pub width_of : Field → ℕ
width_of field = (field.hi + 1) - field.lo

-- the line is for this instance of the child of that name
abbrev pub IsFor : ChildField → List ℕ → ℕ → Type 0
IsFor line name instance = (line.child ≡ name) × (line.instance ≡ instance)

-- the first of the lines that is for this instance
abbrev pub IsFirstFor : List ChildField → List ℕ → ℕ → ChildField → Type 0
IsFirstFor [] name instance found = ⊥
IsFirstFor (line ∷ lines) name instance found =
    (IsFor line name instance × (found ≡ line))
    ⊎ ((IsFor line name instance → ⊥) × IsFirstFor lines name instance found)

-- the line, by its number, and the field of the LUTs in this instance of a child
abbrev pub GivesField : LutFields → List ℕ → ℕ → ℕ → Field → Type 0
GivesField (One f) name instance line field = (f.line ≡ line) × (f.field ≡ field)
GivesField (Children lines) name instance line field =
    (c : ChildField) × IsFirstFor lines name instance c × (c.line ≡ line) × (c.field ≡ field)

-- the line and the field of the owner itself, where it is a LUT: fields by child give it none
abbrev pub GivesOwn : LutFields → ℕ → Field → Type 0
GivesOwn (One f) line field = (f.line ≡ line) × (f.field ≡ field)
GivesOwn (Children lines) line field = ⊥

-- a LUT of k inputs that the mode holds has this line and field
abbrev pub UsesOfMode : Mode → LutFields → ℕ → Field → ℕ → Type 0
UsesOfMode mode fields line field k =
    (name : List ℕ) × ((instance : ℕ) × HoldsInMode mode name instance k × GivesField fields name instance line field)

-- a LUT of k inputs that the pb_type holds has this line and field
abbrev pub UsesOfPbType : PbType → LutFields → ℕ → Field → ℕ → Type 0
UsesOfPbType block fields line field k =
    (IsLutOf block k × GivesOwn fields line field)
    ⊎ ((name : List ℕ) × ((instance : ℕ) × HoldsInside block name instance k × GivesField fields name instance line field))

-- some LUT that uses the line has k inputs, and the field has another number of bits than 2^k
pub record Misfits (Uses : ℕ → Field → ℕ → Type 0) (line : ℕ) : Type 0 where
  pub field : Field
  pub inputs : ℕ
  pub uses : Uses line field inputs
  pub other : width_of field ≡ 2 ^ inputs → ⊥

-- the least number of which this holds, where there is one
abbrev pub IsLeast : (ℕ → Type 0) → Option ℕ → Type 0
IsLeast Holds least = MatchOption least ((n : ℕ) → Holds n → ⊥) (λ n. Holds n × ((m : ℕ) → Holds m → n ≤ m))
