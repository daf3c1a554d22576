-- When a file has no element: it isn't UTF-8, it breaks somewhere, or it is nested too deep.
use Rattle.std.specs.Prelude.{◌≡◌, ◌≢◌, ◌<◌, ◌+◌, ◌-◌, ℕ, List, [], ◌∷◌, ◌++◌, length, IsUtf8}
use Rattle.vtr_base.specs.declared.place.Place.{Place}
use Rattle.elem_text.specs.declared.elem.Elem.{Elem}
use Rattle.elem_text.specs.declared.error.ElemError.{ElemError}
use Rattle.elem_text.specs.declared.error.ElemError.TheVariants.{NotUtf8, Deep, Broken, OutOfMemory}
use Rattle.elem_text.specs.declared.lex.Flaw.{Flaw}
use Rattle.elem_text.specs.declared.lex.Flaw.TheVariants.{Cut, Bad, OutOfMemory as no_memory}
use Rattle.elem_text.specs.declared.stack.Refusal.{Refusal}
use Rattle.elem_text.specs.declared.stack.Refusal.TheVariants.{Broken as not_allowed, Deep as too_deep, OutOfMemory as memory_gone}
use Rattle.elem_text.specs.Bytes.{place_after}
use Rattle.elem_text.specs.Tree.{Piece, opens, closes, hollow, run, skip, IsDocument, Fits}
use Rattle.elem_text.specs.Grammar.{IsLex, Reads, body, body_place}

-- the file's end cuts a piece off: the bytes begin with none, and further bytes make one of the whole
abbrev pub IsCut : Place → List ℕ → Type 0
IsCut at bytes =
    (more : List ℕ) × (p : Piece) × (0 < length more) × IsLex at (bytes ++ more) p []
    × ((q : Piece) (rest : List ℕ) → IsLex at bytes q rest → ⊥)

-- the bytes begin with no piece, and no further bytes make one of them
abbrev pub IsBad : Place → List ℕ → Type 0
IsBad at bytes = (more : List ℕ) (p : Piece) (rest : List ℕ) → IsLex at (bytes ++ more) p rest → ⊥

-- no element of these pieces opens at level 65, where so many elements are open before them
abbrev pub AreShallow : ℕ → List Piece → Type 0
AreShallow n [] = Unit {0}
AreShallow n (opens name attrs at ∷ ps) = (n < 64) × AreShallow (n + 1) ps
AreShallow n (hollow name attrs at ∷ ps) = (n < 64) × AreShallow n ps
AreShallow n (closes name ∷ ps) = AreShallow (n - 1) ps
AreShallow n (run raw ∷ ps) = AreShallow n ps
AreShallow n (skip ∷ ps) = AreShallow n ps

-- behind these pieces, where `rest` stands at this place, the grammar fails, and that is told there:
-- no further pieces mend the next one; it is no piece; the file's end cuts it off; or the file ends
-- too early
pub data Fails (ps : List Piece) (at : Place) (rest : List ℕ) : Place → Type 0 where
  wrong : (p : Piece) (behind : List ℕ) → IsLex at rest p behind → (Fits (ps ++ p ∷ []) → ⊥) → Fails ps at rest at
  unread : rest ≢ [] → IsBad at rest → Fails ps at rest at
  cut : rest ≢ [] → IsCut at rest → Fails ps at rest (place_after at rest)
  short : rest ≡ [] → ((e : Elem) → IsDocument ps e → ⊥) → Fails ps at rest at

-- the bytes, which begin at the first place, begin with pieces that some more would make a file of,
-- none of them too deep, and then the grammar fails, which is told at the second place
pub record BreaksFrom (start : Place) (bytes : List ℕ) (place : Place) : Type 0 where
  pub ps : List Piece
  pub at : Place
  pub rest : List ℕ
  pub reads : Reads start bytes ps at rest
  pub fits : Fits ps
  pub shallow : AreShallow 0 ps
  pub fails : Fails ps at rest place

-- the bytes begin with such pieces, and the next one, which may stand there, opens an element at level 65
pub record DeepensFrom (start : Place) (bytes : List ℕ) : Type 0 where
  pub ps : List Piece
  pub at : Place
  pub rest : List ℕ
  pub piece : Piece
  pub behind : List ℕ
  pub reads : Reads start bytes ps at rest
  pub lex : IsLex at rest piece behind
  pub fits : Fits (ps ++ piece ∷ [])
  pub shallow : AreShallow 0 ps
  pub deep : AreShallow 0 (ps ++ piece ∷ []) → ⊥

-- where the grammar of a file fails; and that an element of it opens at level 65 before it fails
abbrev pub BreaksAt : List ℕ → Place → Type 0
BreaksAt bytes place = BreaksFrom (body_place bytes) (body bytes) place

abbrev pub IsTooDeep : List ℕ → Type 0
IsTooDeep bytes = DeepensFrom (body_place bytes) (body bytes)

abbrev pub RefusesFrom : Place → List ℕ → ElemError → Type 0
RefusesFrom start bytes NotUtf8 = ⊥
RefusesFrom start bytes Deep = DeepensFrom start bytes
RefusesFrom start bytes (Broken place) = BreaksFrom start bytes place
RefusesFrom start bytes OutOfMemory = Unit {0}

-- why a file is refused; want of memory may come at any file
abbrev pub Refuses : List ℕ → ElemError → Type 0
Refuses bytes NotUtf8 = IsUtf8 bytes → ⊥
Refuses bytes Deep = IsUtf8 bytes × IsTooDeep bytes
Refuses bytes (Broken place) = IsUtf8 bytes × BreaksAt bytes place
Refuses bytes OutOfMemory = Unit {0}

-- the error that tells a flaw of the piece at a place
abbrev pub TellsFlaw : Flaw → Place → List ℕ → ElemError → Type 0
TellsFlaw Cut at rest e = e ≡ Broken (place_after at rest)
TellsFlaw Bad at rest e = e ≡ Broken at
TellsFlaw no_memory at rest e = e ≡ OutOfMemory

-- the error that tells why a piece may not stand at a place
abbrev pub TellsRefusal : Refusal → Place → ElemError → Type 0
TellsRefusal not_allowed at e = e ≡ Broken at
TellsRefusal too_deep at e = e ≡ Deep
TellsRefusal memory_gone at e = e ≡ OutOfMemory
