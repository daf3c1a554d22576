-- The site and the choice that a line names, and what it lacks where there is none.
use Rattle.std.specs.Prelude.{◌≡◌, ◌==◌, ◌⊎◌, ℕ, Bool, List, [], ◌∷◌, ◌++◌, None}
use Rattle.pb_expand.specs.declared.number.Edge.{Edge}
use Rattle.pb_expand.specs.Graph.{Graph}
use Rattle.prog_map.specs.declared.choice.LutChoice.TheVariants.{Wire, Table}
use Rattle.prog_map.specs.declared.setting.Setting.{Setting}
use Rattle.prog_map.specs.declared.setting.Setting.TheVariants.{Mode, Pick, Used, Lut}
use Rattle.prog_map.specs.Leaves.{IsLeaf, IsLut, HasModes}
use Rattle.prog_map.specs.Choices.{IsLutChoice}
use Rattle.prog_text.specs.Names.{NamesInstance, NamesPin, NamesMode}
use Rattle.prog_text.specs.NamedEdges.{IsEdgeNamed, IsNamedEdge, IsEdgeWanted}
use Rattle.prog_text.specs.Sayings.{Saying, says_mode, says_pin, says_used, says_wire, says_table}

-- the table that digits write, the highest bit first
abbrev pub table_of : List ℕ → List Bool
table_of [] = []
table_of (digit ∷ digits) = table_of digits ++ (digit == 49) ∷ []

-- the pins and the mode name this edge
pub record NamesEdge (g : Graph) (pin mode source : List ℕ) (into in_mode number : ℕ) : Type 0 where
  pub edge : Edge
  pub is_pin : NamesPin g pin into
  pub is_source : NamesPin g source edge.src.0
  pub named : IsEdgeNamed g number into mode edge.src.0 edge
  pub is_mode : in_mode ≡ edge.mode

-- the line names this site and this choice
abbrev pub Names : Graph → Saying → Setting → Type 0
Names g (says_mode instance mode) (Mode pb number) = NamesInstance g instance pb.0 × HasModes g pb.0 × NamesMode g pb.0 mode number
Names g (says_pin pin mode source) (Pick into in_mode edge) = NamesEdge g pin mode source into.0 in_mode edge.0
Names g (says_used instance) (Used pb) = NamesInstance g instance pb.0 × IsLeaf g pb.0
Names g (says_wire instance input) (Lut pb choice) = NamesInstance g instance pb.0 × (choice ≡ Wire input) × IsLutChoice g pb.0 choice
Names g (says_table instance digits) (Lut pb choice) =
    NamesInstance g instance pb.0 × (choice ≡ Table (table_of digits)) × IsLutChoice g pb.0 choice
Names g _ _ = ⊥

-- no instance is written so, or one that has no such site
abbrev pub LacksInstance : Graph → List ℕ → (ℕ → Type 0) → Type 0
LacksInstance g text HasSite = ((pb : ℕ) → NamesInstance g text pb → ⊥) ⊎ ((pb : ℕ) × NamesInstance g text pb × (HasSite pb → ⊥))

-- the site that the line names isn't there: no such instance, or one of another kind; no such pin, or
-- one without an edge in a mode of that name
abbrev pub LacksSite : Graph → Saying → Type 0
LacksSite g (says_mode instance mode) = LacksInstance g instance (HasModes g)
LacksSite g (says_pin pin mode source) =
    ((n : ℕ) → NamesPin g pin n → ⊥) ⊎ ((n : ℕ) × NamesPin g pin n × ((edge : ℕ) → IsEdgeWanted g edge n mode None → ⊥))
LacksSite g (says_used instance) = LacksInstance g instance (IsLeaf g)
LacksSite g (says_wire instance input) = LacksInstance g instance (IsLut g)
LacksSite g (says_table instance digits) = LacksInstance g instance (IsLut g)

-- no pin is written so, or one from which no edge of a mode of that name leads to the pin
abbrev pub LacksSource : Graph → ℕ → List ℕ → List ℕ → Type 0
LacksSource g pin mode source =
    ((n : ℕ) → NamesPin g source n → ⊥) ⊎ ((n : ℕ) × NamesPin g source n × ((edge : ℕ) → IsNamedEdge g edge pin mode n → ⊥))

-- the site is there, but not the choice: no mode of that name, no such edge, no such input of the
-- LUT, or a table of another length
abbrev pub LacksChoice : Graph → Saying → Type 0
LacksChoice g (says_mode instance mode) =
    (pb : ℕ) × NamesInstance g instance pb × HasModes g pb × ((number : ℕ) → NamesMode g pb mode number → ⊥)
LacksChoice g (says_pin pin mode source) =
    (n : ℕ) × NamesPin g pin n × ((edge : ℕ) × IsEdgeWanted g edge n mode None) × LacksSource g n mode source
LacksChoice g (says_used instance) = ⊥
LacksChoice g (says_wire instance input) = (pb : ℕ) × NamesInstance g instance pb × IsLut g pb × (IsLutChoice g pb (Wire input) → ⊥)
LacksChoice g (says_table instance digits) =
    (pb : ℕ) × NamesInstance g instance pb × IsLut g pb × (IsLutChoice g pb (Table (table_of digits)) → ⊥)

-- a line that says one of these names this site and this choice
pub record IsNamed (g : Graph) (Said : Saying → Type 0) (setting : Setting) : Type 0 where
  pub saying : Saying
  pub said : Said saying
  pub names : Names g saying setting
