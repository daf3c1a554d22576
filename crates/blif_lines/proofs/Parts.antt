-- The physical lines of a line, one behind the other.
use Rattle.std.proofs.Common.{◌≡◌, inl, inr, ℕ, true, List, [], ◌∷◌, ◌++◌, append_assoc, append-nil, sym, ap, ◌∙◌, subst}
use Rattle.std.specs.List.{AllPass}
use Rattle.std.proofs.lemmas.List.Elements.{All-append, All-nil, All-cons, All-head, All-tail}
use Rattle.vtr_base.specs.Spans.{is_white}
use Rattle.vtr_base.specs.declared.place.Place.{Place}
use Rattle.blif_lines.specs.Physical.{Piece}
use Rattle.blif_lines.specs.Lines.{text_of, IsWordPlace, HasWordAt}

pub text_more : (pieces : List Piece) (p : Piece) → text_of (pieces ++ p ∷ []) ≡ text_of pieces ++ p.text
text_more [] p = append-nil p.text
text_more (q ∷ pieces) p = ap (λ t. q.text ++ t) (text_more pieces p) ∙ sym (append_assoc q.text (text_of pieces) p.text)

pub front_white : (a b : List ℕ) → AllPass is_white (a ++ b) → AllPass is_white a
front_white [] b all = All-nil (λ x. is_white x ≡ true)
front_white (x ∷ a) b all =
    All-cons (λ y. is_white y ≡ true) x a (All-head (λ y. is_white y ≡ true) x (a ++ b) all) (front_white a b (All-tail (λ y. is_white y ≡ true) x (a ++ b) all))

pub back_white : (a b : List ℕ) → AllPass is_white (a ++ b) → AllPass is_white b
back_white [] b all = all
back_white (x ∷ a) b all = back_white a b (All-tail (λ y. is_white y ≡ true) x (a ++ b) all)

-- the first word stays where it is
pub word_stays : (pieces more : List Piece) (place : Place) → HasWordAt pieces place → HasWordAt (pieces ++ more) place
word_stays [] more place h = absurd h
word_stays (p ∷ pieces) more place (inl here) = inl here
word_stays (p ∷ pieces) more place (inr later) = inr (later.0, word_stays pieces more place later.1)

-- behind white space alone, the first word is that of the next piece
pub word_comes : (pieces : List Piece) (p : Piece) (place : Place) → AllPass is_white (text_of pieces) → IsWordPlace p place → HasWordAt (pieces ++ p ∷ []) place
word_comes [] p place white is = inl is
word_comes (q ∷ pieces) p place white is =
    inr (front_white q.text (text_of pieces) white, word_comes pieces p place (back_white q.text (text_of pieces) white) is)

pub white_more : (pieces : List Piece) (p : Piece) → AllPass is_white (text_of pieces) → AllPass is_white p.text → AllPass is_white (text_of (pieces ++ p ∷ []))
white_more pieces p white is =
    subst (AllPass is_white) (sym (text_more pieces p)) (All-append (λ b. is_white b ≡ true) (text_of pieces) p.text white is)
