-- The lines of a BLIF file, each of one physical line or of several that are joined.
use Rattle.std.specs.Prelude.{◌≡◌, ◌<◌, ◌+◌, ◌⊎◌, ◌↔◌, ℕ, Bool, true, false, min, List, [], ◌∷◌, ◌++◌, IsTrue, IsUtf8, length}
use Rattle.std.specs.List.{AllPass, All}
use Rattle.std.specs.Str.Lines.{lines}
use Rattle.vtr_base.specs.Spans.{is_white, IsSpan}
use Rattle.vtr_base.specs.declared.place.Place.{Place}
use Rattle.blif_lines.specs.Physical.{Piece, IsPiece, following}

-- no `\` joins the next physical line, or there is none
abbrev pub IsLast : Piece → List (List ℕ) → Type 0
IsLast p later = (p.joins ≡ false) ⊎ (later ≡ [])

-- the physical lines, whose first has this number, begin with one line, which has these pieces; the
-- next one begins at the physical line of the number `next`, with which `rest` begins
abbrev pub IsOneLine : ℕ → List (List ℕ) → List Piece → ℕ → List (List ℕ) → Type 0
IsOneLine number [] pieces next rest = ⊥
IsOneLine number (line ∷ later) [] next rest = ⊥
IsOneLine number (line ∷ later) (p ∷ pieces) next rest =
    IsPiece number line p
    × ((IsLast p later × (pieces ≡ []) × (next ≡ following number) × (rest ≡ later))
    ⊎ ((p.joins ≡ true) × IsOneLine (following number) later pieces next rest))

-- the text of a line: what its pieces leave, one behind the other
abbrev pub text_of : List Piece → List ℕ
text_of [] = []
text_of (p ∷ pieces) = p.text ++ text_of pieces

-- the text has a word, and so many white bytes stand in front of its first one
pub record BeginsBehind (text : List ℕ) (count : ℕ) : Type 0 where
  pub gap : List ℕ
  pub words : List ℕ
  pub span : IsSpan is_white text gap words
  pub some : 0 < length words
  pub count_is : count ≡ length gap

-- the place at which the first word of a piece begins: bytes are counted from 1 in the physical
-- line, and the count stands still at 2^32 - 1
abbrev pub IsWordPlace : Piece → Place → Type 0
IsWordPlace p place =
    (count : ℕ) × BeginsBehind p.text count
    × (place ≡ record { line = p.number; byte = min (count + 1) 4294967295 })

-- that of the first word of a line, which begins in the first piece that isn't white space alone
abbrev pub HasWordAt : List Piece → Place → Type 0
HasWordAt [] place = ⊥
HasWordAt (p ∷ pieces) place =
    IsWordPlace p place ⊎ (AllPass is_white p.text × HasWordAt pieces place)

-- a line without words has the place at which it begins
abbrev pub IsPlacedAt : ℕ → List Piece → Place → Type 0
IsPlacedAt number pieces place =
    HasWordAt pieces place
    ⊎ (AllPass is_white (text_of pieces) × (place ≡ record { line = number; byte = 1 }))

-- what a line is for those who read it: its text, whether all its physical lines are UTF-8, their
-- comments too, and its place
pub record LineSaid : Type 0 where
  pub text : List ℕ
  pub is_utf8 : Bool
  pub place : Place

pub record IsLineOf (number : ℕ) (pieces : List Piece) (l : LineSaid) : Type 0 where
  pub text : l.text ≡ text_of pieces
  pub utf8 : IsTrue l.is_utf8 ↔ All (λ p. IsUtf8 p.line) pieces
  pub place : IsPlacedAt number pieces l.place

-- the physical lines begin with this line
pub record IsNextLine (number : ℕ) (physical : List (List ℕ)) (l : LineSaid) (next : ℕ)
    (rest : List (List ℕ)) : Type 0 where
  pub pieces : List Piece
  pub one : IsOneLine number physical pieces next rest
  pub is : IsLineOf number pieces l

-- these are the lines that the physical lines make
abbrev pub AreLinesFrom : ℕ → List (List ℕ) → List LineSaid → Type 0
AreLinesFrom number physical [] = physical ≡ []
AreLinesFrom number physical (l ∷ ls) =
    (next : ℕ) × (rest : List (List ℕ))
    × IsNextLine number physical l next rest × AreLinesFrom next rest ls

-- the lines of a file
abbrev pub AreLines : List ℕ → List LineSaid → Type 0
AreLines bytes ls = AreLinesFrom 1 (lines bytes) ls
