-- Physical lines are joined one by one.
use Rattle.std.proofs.Common.{◌≡◌, ◌↔◌, ◌&&◌, inl, inr, ℕ, Bool, true, false, List, [], ◌∷◌, ◌++◌, Option, Some, None, MatchOption, IsTrue, append_assoc, append-nil, refl, sym, subst}
use Rattle.std.specs.Prelude.{IsUtf8, unwrap_or}
use Rattle.std.specs.Option.{option_or}
use Rattle.std.specs.List.{All, AllPass}
use Rattle.std.proofs.lemmas.List.Elements.{All-append, All-nil, All-cons, All-head, All-tail}
use Rattle.vtr_base.specs.Spans.{is_white}
use Rattle.vtr_base.specs.declared.place.Place.{Place}
use Rattle.blif_lines.specs.declared.joined.Joining.{Joining}
use Rattle.blif_lines.specs.declared.line.Cursor.{Cursor}
use Rattle.blif_lines.specs.Physical.{Piece}
use Rattle.blif_lines.specs.Lines.{text_of, IsWordPlace, HasWordAt, IsPlacedAt, IsOneLine}
use Rattle.blif_lines.specs.Seen.{Holds, StepsTo, still}
use Rattle.blif_lines.proofs.Parts.{word_stays, word_comes, white_more}

-- all are UTF-8 where the ones before are, and this one
abbrev pub AreUtf8 : List Piece → Type 0
AreUtf8 pieces = All (λ p. IsUtf8 p.line) pieces

pub utf8_more : (pieces : List Piece) (p : Piece) (before here : Bool) → IsTrue before ↔ AreUtf8 pieces → IsTrue here ↔ IsUtf8 p.line →
    IsTrue (before && here) ↔ AreUtf8 (pieces ++ p ∷ [])
utf8_more pieces p before here b h = (λ t. forth before here b h t, λ all. back before here b h all)
  where
    forth : (before here : Bool) → IsTrue before ↔ AreUtf8 pieces → IsTrue here ↔ IsUtf8 p.line → IsTrue (before && here) → AreUtf8 (pieces ++ p ∷ [])
    forth true true b h t =
        All-append (λ q. IsUtf8 q.line) pieces (p ∷ []) (b.0 t) (All-cons (λ q. IsUtf8 q.line) p [] (h.0 t) (All-nil (λ q. IsUtf8 q.line)))
    forth true false b h t = cc
    forth false here b h t = cc

    front : (ps : List Piece) → AreUtf8 (ps ++ p ∷ []) → AreUtf8 ps × IsUtf8 p.line
    front [] all = (All-nil (λ q. IsUtf8 q.line), All-head (λ q. IsUtf8 q.line) p [] all)
    front (q ∷ ps) all =
        let rest = front ps (All-tail (λ q. IsUtf8 q.line) q (ps ++ p ∷ []) all) in
        (All-cons (λ q. IsUtf8 q.line) q ps (All-head (λ q. IsUtf8 q.line) q (ps ++ p ∷ []) all) rest.0, rest.1)

    back : (before here : Bool) → IsTrue before ↔ AreUtf8 pieces → IsTrue here ↔ IsUtf8 p.line → AreUtf8 (pieces ++ p ∷ []) → IsTrue (before && here)
    back true true b h all = refl
    back true false b h all = h.1 (front pieces all).1
    back false here b h all = b.1 (front pieces all).0

pub place_more : (pieces : List Piece) (p : Piece) (before here : Option Place) → MatchOption before (AllPass is_white (text_of pieces)) (HasWordAt pieces) →
    MatchOption here (AllPass is_white p.text) (IsWordPlace p) → MatchOption (option_or before here) (AllPass is_white (text_of (pieces ++ p ∷ []))) (HasWordAt (pieces ++ p ∷ []))
place_more pieces p None None b h = white_more pieces p b h
place_more pieces p None (Some place) b h = word_comes pieces p place b h
place_more pieces p (Some place) here b h = word_stays pieces (p ∷ []) place b

-- what the line's place is, told by that of a first word
pub placed : (number : ℕ) (pieces : List Piece) (word : Option Place) → MatchOption word (AllPass is_white (text_of pieces)) (HasWordAt pieces) →
    IsPlacedAt number pieces (unwrap_or word (record { line = number; byte = 1 }))
placed number pieces None w = inr (w, refl)
placed number pieces (Some place) w = inl w

pub lone_word : (p : Piece) (word : Option Place) → MatchOption word (AllPass is_white p.text) (IsWordPlace p) →
    MatchOption word (AllPass is_white (text_of (p ∷ []))) (HasWordAt (p ∷ []))
lone_word p None w = subst (AllPass is_white) (sym (append-nil p.text)) w
lone_word p (Some place) w = inl w

pub lone_utf8 : (p : Piece) (here : Bool) → IsTrue here ↔ IsUtf8 p.line → IsTrue here ↔ AreUtf8 (p ∷ [])
lone_utf8 p here h =
    (λ t. All-cons (λ q. IsUtf8 q.line) p [] (h.0 t) (All-nil (λ q. IsUtf8 q.line)), λ all. h.1 (All-head (λ q. IsUtf8 q.line) p [] all))

-- the physical lines so far join those that are still to come, and end the line where none are
pub record IsJoining (number : ℕ) (physical : List (List ℕ)) (pieces : List Piece) (next : ℕ) (rest : List (List ℕ)) : Type 0 where
  pub more : (later : List Piece) (n : ℕ) (r : List (List ℕ)) → IsOneLine next rest later n r → IsOneLine number physical (pieces ++ later) n r
  pub ends : rest ≡ [] → IsOneLine number physical pieces next rest

-- a physical line whose line it is alone
pub stands_alone : (at : Cursor) (p : Piece) (behind : Cursor) → StepsTo at p behind → p.joins ≡ false → IsOneLine at.number (still at) (p ∷ []) behind.number (still behind)
stands_alone at p behind s last =
    subst (λ physical. IsOneLine at.number physical (p ∷ []) behind.number (still behind)) (sym s.first) (s.is_piece, inl (inl last, refl, s.counted, refl))

ends_last : (at : Cursor) (p : Piece) (behind : Cursor) → StepsTo at p behind → still behind ≡ [] → IsOneLine at.number (still at) (p ∷ []) behind.number (still behind)
ends_last at p behind s none =
    subst (λ physical. IsOneLine at.number physical (p ∷ []) behind.number (still behind)) (sym s.first) (s.is_piece, inl (inr none, refl, s.counted, refl))

goes_on : (at : Cursor) (p : Piece) (behind : Cursor) → StepsTo at p behind → p.joins ≡ true → (later : List Piece) (n : ℕ) (r : List (List ℕ)) →
    IsOneLine behind.number (still behind) later n r → IsOneLine at.number (still at) (p ∷ later) n r
goes_on at p behind s joins later n r one =
    subst (λ physical. IsOneLine at.number physical (p ∷ later) n r) (sym s.first)
    (s.is_piece, inr (joins, subst (λ k. IsOneLine k (still behind) later n r) s.counted one))

pub joining_starts : (at : Cursor) (p : Piece) (behind : Cursor) → StepsTo at p behind → p.joins ≡ true → IsJoining at.number (still at) (p ∷ []) behind.number (still behind)
joining_starts at p behind s joins = record { more = goes_on at p behind s joins; ends = ends_last at p behind s }

pub joining_goes_on : (number : ℕ) (physical : List (List ℕ)) (pieces : List Piece) (at : Cursor) (p : Piece) (behind : Cursor) →
    IsJoining number physical pieces at.number (still at) → StepsTo at p behind → p.joins ≡ true → IsJoining number physical (pieces ++ p ∷ []) behind.number (still behind)
joining_goes_on number physical pieces at p behind j s joins = record {
  more = λ later n r one.
      subst (λ ps. IsOneLine number physical ps n r) (sym (append_assoc pieces (p ∷ []) later)) (j.more (p ∷ later) n r (goes_on at p behind s joins later n r one));
  ends = λ none. j.more (p ∷ []) behind.number (still behind) (ends_last at p behind s none);
}

pub joining_ends : (number : ℕ) (physical : List (List ℕ)) (pieces : List Piece) (at : Cursor) (p : Piece) (behind : Cursor) →
    IsJoining number physical pieces at.number (still at) → StepsTo at p behind → p.joins ≡ false → IsOneLine number physical (pieces ++ p ∷ []) behind.number (still behind)
joining_ends number physical pieces at p behind j s last = j.more (p ∷ []) behind.number (still behind) (stands_alone at p behind s last)

-- what the loop knows: the physical lines that are put together
pub record IsAlong (start : Cursor) (at : Cursor) (j : Joining) : Type 0 where
  pub pieces : List Piece
  pub joining : IsJoining start.number (still start) pieces at.number (still at)
  pub holds : Holds pieces j
