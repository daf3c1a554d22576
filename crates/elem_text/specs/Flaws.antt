-- Why no piece begins somewhere: the file's end cuts one off, or no further bytes make one.
use Rattle.std.specs.Prelude.{◌≡◌, ◌≢◌, ◌<◌, ℕ, Bool, List, [], ◌∷◌, ◌++◌, length}
use Rattle.vtr_base.specs.declared.place.Place.{Place}
use Rattle.elem_text.specs.declared.elem.Attr.{Attr}
use Rattle.elem_text.specs.declared.lex.Flaw.{Flaw}
use Rattle.elem_text.specs.declared.lex.Flaw.TheVariants.{Cut, Bad, OutOfMemory}
use Rattle.elem_text.specs.Bytes.{is_white, IsSpan, IsNamed}
use Rattle.elem_text.specs.Tree.{Piece}
use Rattle.elem_text.specs.Grammar.{HasName, IsQuote, IsQuoted, IsAttr, Attributes, tail_of, IsStartTag, IsEndTag, IsComment, IsInstruction, IsLex}

-- of something that bytes may begin with, and a rest follow: some further bytes make the whole of
-- it, or none do
abbrev pub IsFlawOf : (List ℕ → List ℕ → Type 0) → Flaw → List ℕ → Type 0
IsFlawOf R Cut bytes = (more : List ℕ) × (0 < length more) × R (bytes ++ more) []
IsFlawOf R Bad bytes = (more rest : List ℕ) → R (bytes ++ more) rest → ⊥
IsFlawOf R OutOfMemory bytes = Unit {0}

-- a byte is missing before these: at the end of the file, or not
abbrev pub IsEnded : Flaw → List ℕ → Type 0
IsEnded Cut bytes = bytes ≡ []
IsEnded Bad bytes = bytes ≢ []
IsEnded OutOfMemory bytes = ⊥

abbrev pub ANamed : List ℕ → List ℕ → Type 0
ANamed bytes rest = (n : List ℕ) × IsNamed bytes n rest

abbrev pub ASign : ℕ → List ℕ → List ℕ → Type 0
ASign b bytes rest = (gap : List ℕ) × IsSpan is_white bytes gap (b ∷ rest)

abbrev pub AQuote : List ℕ → List ℕ → Type 0
AQuote bytes rest = (q : ℕ) × (bytes ≡ q ∷ rest) × IsQuote q

abbrev pub AQuoted : List ℕ → List ℕ → Type 0
AQuoted bytes rest = (raw : List ℕ) × IsQuoted bytes raw rest

-- an attribute whose name none of those before has
abbrev pub AnAttr : List Attr → List ℕ → List ℕ → Type 0
AnAttr before bytes rest = (n raw : List ℕ) × IsAttr bytes n raw rest × (HasName before n → ⊥)

-- the rest of a start tag, behind its name and these attributes
abbrev pub ATagRest : List Attr → List ℕ → List ℕ → Type 0
ATagRest before bytes rest = (attrs : List Attr) × (empty : Bool) × Attributes before bytes attrs (tail_of empty rest)

-- what stands behind '<', behind '</', behind '<!' and behind '<?'
abbrev pub AStartTag : List ℕ → List ℕ → Type 0
AStartTag inside rest = (n : List ℕ) × (attrs : List Attr) × (empty : Bool) × IsStartTag (60 ∷ inside) n attrs empty rest

abbrev pub AnEndTag : List ℕ → List ℕ → Type 0
AnEndTag inside rest = (n : List ℕ) × IsEndTag (60 ∷ 47 ∷ inside) n rest

abbrev pub AComment : List ℕ → List ℕ → Type 0
AComment inside rest = IsComment (60 ∷ 33 ∷ inside) rest

abbrev pub AnInstruction : List ℕ → List ℕ → Type 0
AnInstruction inside rest = IsInstruction (60 ∷ 63 ∷ inside) rest

-- a piece, at any place
abbrev pub APiece : List ℕ → List ℕ → Type 0
APiece bytes rest = (at : Place) × (p : Piece) × IsLex at bytes p rest

-- the slash of an empty tag, without the '>' that has to follow it
abbrev pub IsSlash : Flaw → List ℕ → Type 0
IsSlash f bytes = (inside : List ℕ) × (bytes ≡ 47 ∷ inside) × ((rest : List ℕ) → inside ≡ 62 ∷ rest → ⊥) × IsEnded f inside

-- no end of a tag begins here
abbrev pub NoTail : List ℕ → Type 0
NoTail bytes = (rest : List ℕ) → (bytes ≡ 62 ∷ rest → ⊥) × (bytes ≡ 47 ∷ rest → ⊥)
