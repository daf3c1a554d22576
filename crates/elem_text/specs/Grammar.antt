-- The grammar of element text: bytes to pieces, and a file to its root element.
use Rattle.std.specs.Prelude.{◌≡◌, ◌≢◌, ◌==◌, ◌&&◌, ◌⊎◌, ℕ, Bool, true, false, if◌then◌else◌, List, [], ◌∷◌, ◌++◌, drop, Option, Some, None, IsUtf8}
use Rattle.vtr_base.specs.declared.place.Place.{Place}
use Rattle.elem_text.specs.declared.elem.Attr.{Attr}
use Rattle.elem_text.specs.declared.elem.Elem.{Elem}
use Rattle.elem_text.specs.Bytes.{is_white, is_not, IsSpan, IsNamed, place_after, first_place}
use Rattle.elem_text.specs.References.{decoded}
use Rattle.elem_text.specs.Tree.{Piece, opens, closes, hollow, run, skip, IsDocument}

-- a double or a single quote
abbrev pub IsQuote : ℕ → Type 0
IsQuote q = (q ≡ 34) ⊎ (q ≡ 39)

-- one of the attributes has this name
abbrev pub HasName : List Attr → List ℕ → Type 0
HasName [] name = ⊥
HasName (a ∷ attrs) name = (a.name ≡ name) ⊎ HasName attrs name

-- a quote, bytes other than it, and the quote again
pub record IsQuoted (bytes raw after : List ℕ) : Type 0 where
  pub quote : ℕ
  pub inside : List ℕ
  pub mark : bytes ≡ quote ∷ inside
  pub is_quote : IsQuote quote
  pub span : IsSpan (is_not quote) inside raw (quote ∷ after)

-- NAME = "RAW", in either quotes and with white space round the sign
pub record IsAttr (bytes name raw after : List ℕ) : Type 0 where
  pub left : List ℕ
  pub right : List ℕ
  pub at_left : List ℕ
  pub at_right : List ℕ
  pub at_quote : List ℕ
  pub named : IsNamed bytes name at_left
  pub before_sign : IsSpan is_white at_left left (61 ∷ at_right)
  pub behind_sign : IsSpan is_white at_right right at_quote
  pub quoted : IsQuoted at_quote raw after

-- attributes, each behind white space and with a name of its own, then white space that may be
-- missing, then `behind`; a value is what its raw bytes stand for; the first list holds the
-- attributes of the tag that stand before
abbrev pub Attributes : List Attr → List ℕ → List Attr → List ℕ → Type 0
Attributes before bytes [] behind = (gap : List ℕ) × IsSpan is_white bytes gap behind
Attributes before bytes (a ∷ attrs) behind =
    (gap rest raw after : List ℕ) × IsSpan is_white bytes gap rest × (gap ≢ []) × IsAttr rest a.name raw after
    × (a.value ≡ decoded raw) × (HasName before a.name → ⊥) × Attributes (before ++ a ∷ []) after attrs behind

-- how a start tag ends, and an empty tag
abbrev pub tail_of : Bool → List ℕ → List ℕ
tail_of false rest = 62 ∷ rest
tail_of true rest = 47 ∷ 62 ∷ rest

-- <NAME ATTRIBUTES>, or <NAME ATTRIBUTES/> where it is an empty tag
pub record IsStartTag (bytes name : List ℕ) (attrs : List Attr) (empty : Bool) (rest : List ℕ) : Type 0 where
  pub inside : List ℕ
  pub behind : List ℕ
  pub angle : bytes ≡ 60 ∷ inside
  pub named : IsNamed inside name behind
  pub attributes : Attributes [] behind attrs (tail_of empty rest)

-- </NAME>, with white space before the '>'
pub record IsEndTag (bytes name rest : List ℕ) : Type 0 where
  pub inside : List ℕ
  pub behind : List ℕ
  pub gap : List ℕ
  pub angle : bytes ≡ 60 ∷ 47 ∷ inside
  pub named : IsNamed inside name behind
  pub white : IsSpan is_white behind gap (62 ∷ rest)

-- what follows the first '-->'
abbrev pub behind_comment : List ℕ → Option (List ℕ)
behind_comment (a ∷ b ∷ c ∷ rest) = if (c == 62) && ((b == 45) && (a == 45)) then Some rest else behind_comment (b ∷ c ∷ rest)
behind_comment _ = None

-- what follows the first '?>'
abbrev pub behind_instruction : List ℕ → Option (List ℕ)
behind_instruction (a ∷ b ∷ rest) = if (b == 62) && (a == 63) then Some rest else behind_instruction (b ∷ rest)
behind_instruction _ = None

-- <!-- .. -->
pub record IsComment (bytes rest : List ℕ) : Type 0 where
  pub inside : List ℕ
  pub mark : bytes ≡ 60 ∷ 33 ∷ 45 ∷ 45 ∷ inside
  pub ends : behind_comment inside ≡ Some rest

-- <? .. ?>
pub record IsInstruction (bytes rest : List ℕ) : Type 0 where
  pub inside : List ℕ
  pub mark : bytes ≡ 60 ∷ 63 ∷ inside
  pub ends : behind_instruction inside ≡ Some rest

-- text up to the next '<' or the file's end
pub record IsRun (bytes raw rest : List ℕ) : Type 0 where
  pub span : IsSpan (is_not 60) bytes raw rest
  pub some : raw ≢ []

-- the bytes begin with this piece at this place, and the rest follows it
abbrev pub IsLex : Place → List ℕ → Piece → List ℕ → Type 0
IsLex at bytes (opens name attrs place) rest = (place ≡ at) × IsStartTag bytes name attrs false rest
IsLex at bytes (hollow name attrs place) rest = (place ≡ at) × IsStartTag bytes name attrs true rest
IsLex at bytes (closes name) rest = IsEndTag bytes name rest
IsLex at bytes (run raw) rest = IsRun bytes raw rest
IsLex at bytes skip rest = IsComment bytes rest ⊎ IsInstruction bytes rest

-- the bytes, which begin at one place, begin with these pieces; the rest follows them at the last place
abbrev pub Reads : Place → List ℕ → List Piece → Place → List ℕ → Type 0
Reads at bytes [] end rest = (end ≡ at) × (rest ≡ bytes)
Reads at bytes (p ∷ ps) end rest =
    (front later : List ℕ) × (bytes ≡ front ++ later) × IsLex at bytes p later × Reads (place_after at front) later ps end rest

-- the file begins with a byte order mark
abbrev pub has_mark : List ℕ → Bool
has_mark (a ∷ b ∷ c ∷ rest) = (a == 239) && ((b == 187) && (c == 191))
has_mark _ = false

-- the file behind the byte order mark, and where that begins
abbrev pub body : List ℕ → List ℕ
body bytes = if has_mark bytes then drop 3 bytes else bytes

abbrev pub body_place : List ℕ → Place
body_place bytes = if has_mark bytes then record { line = 1; byte = 4 } else first_place

-- the bytes, which begin at this place, are one element with white space, comments and instructions
-- beside it
pub record IsFile (at : Place) (bytes : List ℕ) (e : Elem) : Type 0 where
  pub ps : List Piece
  pub end : Place
  pub reads : Reads at bytes ps end []
  pub document : IsDocument ps e

-- the bytes are a file of element text with this root element
pub record Spells (bytes : List ℕ) (e : Elem) : Type 0 where
  pub utf8 : IsUtf8 bytes
  pub file : IsFile (body_place bytes) (body bytes) e
