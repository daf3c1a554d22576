-- A FASM line (FASM specification, "Lines"): empty, or a field with or without a value, and a
-- comment behind it.
use Rattle.std.specs.Prelude.{◌≡◌, ◌<◌, ◌==◌, ◌||◌, ◌⊎◌, ℕ, Bool, true, not, List, [], ◌∷◌, ◌++◌, length}
use Rattle.std.specs.List.{AllPass}
use Rattle.vtr_base.specs.Spans.{Lacks, IsCut}
use Rattle.fasm_text.specs.Fields.{IsField}
use Rattle.fasm_text.specs.Values.{IsValue}

-- a blank or a tab
abbrev pub is_blank : ℕ → Bool
is_blank b = (b == 32) || (b == 9)

abbrev pub is_filled : ℕ → Bool
is_filled b = not (is_blank b)

-- what stands before the first `#`, where there is one, and else the whole line
abbrev pub IsBeforeComment : List ℕ → List ℕ → Type 0
IsBeforeComment line said =
    (Lacks line 35 × (said ≡ line)) ⊎ ((comment : List ℕ) × IsCut line 35 said comment)

-- the text is this word with blanks and tabs round it
pub record HasOneWord (text word : List ℕ) : Type 0 where
  pub before : List ℕ
  pub behind : List ℕ
  pub spelled : text ≡ before ++ (word ++ behind)
  pub blank_before : AllPass is_blank before
  pub blank_behind : AllPass is_blank behind
  pub some : 0 < length word
  pub whole : AllPass is_filled word

-- a line gives a field these bits, the lowest first
pub record Giving : Type 0 where
  pub name : List ℕ
  pub lo : ℕ
  pub hi : ℕ
  pub bits : List Bool

abbrev pub HasField : List ℕ → Giving → Type 0
HasField text g = (word : List ℕ) × HasOneWord text word × IsField word g.name g.lo g.hi

-- a field without a value has the value 1
abbrev pub Gives : List ℕ → Giving → Type 0
Gives said g =
    (Lacks said 61 × HasField said g × (g.bits ≡ true ∷ []))
    ⊎ ((left right word : List ℕ) × IsCut said 61 left right
    × HasField left g × HasOneWord right word × IsValue word g.bits)

-- the line is empty but for blanks, tabs and a comment
abbrev pub SaysNothing : List ℕ → Type 0
SaysNothing line = (said : List ℕ) × IsBeforeComment line said × AllPass is_blank said

abbrev pub SaysGiving : List ℕ → Giving → Type 0
SaysGiving line g = (said : List ℕ) × IsBeforeComment line said × Gives said g
