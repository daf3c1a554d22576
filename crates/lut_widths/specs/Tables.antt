-- Tables of children by name, and the lines that were seen of them.
use Rattle.std.specs.Prelude.{◌≡◌, ◌<◌, ◌↔◌, ◌^◌, ℕ, Bool, true, false, min, List, Option, Some, None, length, slice_get}
use Rattle.vtr_base.specs.Lists.{Has}
use Rattle.arch_types.specs.declared.block.PbType.{PbType}
use Rattle.arch_types.specs.declared.block.Mode.{Mode}
use Rattle.arch_types.specs.Tree.{kids_of, metas_of}
use Rattle.meta_lines.specs.declared.types.Field.{Field}
use Rattle.meta_lines.specs.declared.types.ChildField.{ChildField}
use Rattle.meta_said.specs.Owners.{HoldsLuts}
use Rattle.lut_widths.specs.Fields.{IsFirstFor, width_of}
use Rattle.lut_widths.specs.Sizes.{InChild}
use Rattle.lut_widths.specs.Reaches.{IsReach}
use Rattle.lut_widths.specs.declared.reach.Reach.{Reach}
use Rattle.lut_widths.specs.declared.lines.SeenLine.{SeenLine}

-- a LUT of k inputs in this instance of one of the children, which has that name
pub record StandsIn (kids : List PbType) (name : List ℕ) (k instance : ℕ) : Type 0 where
  pub kid : PbType
  pub among : Has kids kid
  pub named : kid.name ≡ name
  pub inside : instance < kid.count
  pub holds : InChild kid k

-- each name's reach is where LUTs stand in the children of that name
pub record AreReaches (kids : List PbType) (names : List (List ℕ)) (reaches : List Reach) : Type 0 where
  pub long : length reaches ≡ length names
  pub each : (n : ℕ) (name : List ℕ) (r : Reach) → slice_get names n ≡ Some name → slice_get reaches n ≡ Some r →
      IsReach (StandsIn kids name) r
  pub known : (kid : PbType) → Has kids kid → Has names kid.name

-- a child of a mode that doesn't hold LUTs itself
pub record IsKidOf (mode : Mode) (kid : PbType) : Type 0 where
  pub bare : HoldsLuts (metas_of mode) → ⊥
  pub among : Has (kids_of mode) kid

-- the children of these modes that don't hold LUTs themselves
abbrev pub AreOpenKids : List Mode → List PbType → Type 0
AreOpenKids modes kids = (kid : PbType) → Has kids kid ↔ ((mode : Mode) × Has modes mode × IsKidOf mode kid)

-- some line is for this instance of a child of that name
abbrev pub HasLine : List ChildField → List ℕ → ℕ → Type 0
HasLine lines name instance = (c : ChildField) × IsFirstFor lines name instance c

-- the instances, by the number of a child's name, that some of the lines is for
abbrev pub AreSeen : List (List ℕ) → List ChildField → List SeenLine → Type 0
AreSeen names lines seen =
    (place : SeenLine) → Has seen place ↔ ((name : List ℕ) × (slice_get names place.child ≡ Some name) × HasLine lines name place.instance)

-- a LUT of k inputs in the children has this line and field
abbrev pub UsesOfLines : List PbType → List ChildField → ℕ → Field → ℕ → Type 0
UsesOfLines kids lines line field k =
    (name : List ℕ) × ((instance : ℕ) × StandsIn kids name k instance
    × ((c : ChildField) × IsFirstFor lines name instance c × (c.line ≡ line) × (c.field ≡ field)))

-- behind these lines, the line is the first for its instance, and some LUT there has no table of so
-- many bits as its field
pub record LineMisfits (kids : List PbType) (before : List ChildField) (line : ChildField) : Type 0 where
  pub new : HasLine before line.child line.instance → ⊥
  pub inputs : ℕ
  pub stands : StandsIn kids line.child inputs line.instance
  pub other : width_of line.field ≡ 2 ^ inputs → ⊥

-- the lesser of the two, where the line counts
abbrev pub least_with : Bool → Option ℕ → ℕ → Option ℕ
least_with false least line = least
least_with true None line = Some line
least_with true (Some other) line = Some (min other line)
