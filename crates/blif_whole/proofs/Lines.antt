-- Physical lines make lines.
use Rattle.std.proofs.Common.{◌≡◌, ◌↔◌, ◌≤◌, ◌+◌, ◌⊎◌, inl, inr, ℕ, zero, suc, Bool, true, false, min, IsTrue, List, [], ◌∷◌, length, append-nil, refl, sym, ap, ◌∙◌, subst, arith}
use Rattle.std.specs.Prelude.{IsUtf8}
use Rattle.std.specs.List.{All, AllPass}
use Rattle.std.specs.Str.{is_utf8}
use Rattle.std.proofs.lemmas.Bool.{cases_Bool, false≢true}
use Rattle.std.proofs.lemmas.List.Elements.{All-append, All-nil, All-cons, All-head, All-tail}
use Rattle.std.proofs.lemmas.Str.{IsUtf8-from_is_utf8, is_utf8-from_IsUtf8}
use Rattle.vtr_base.specs.Spans.{is_white, IsSpan}
use Rattle.vtr_base.specs.declared.place.Place.{Place}
use Rattle.blif_lines.specs.Lines.{BeginsBehind, IsLast, IsOneLine, HasWordAt, IsPlacedAt, text_of, LineSaid, IsLineOf}
use Rattle.blif_lines.specs.Physical.{Piece, IsPiece, following}
use Rattle.blif_whole.specs.Whole.{HasLines}
use Rattle.blif_whole.proofs.Pieces.{OfLine, piece_of}

-- pieces that are all UTF-8, or aren't
abbrev AreUtf8 : List Piece → Type 0
AreUtf8 pieces = All (λ p. IsUtf8 p.line) pieces

utf8_or_not : (pieces : List Piece) → (b : Bool) × (IsTrue b ↔ AreUtf8 pieces)
utf8_or_not [] = (true, (λ t. All-nil (λ (p : Piece). IsUtf8 p.line), λ all. refl))
utf8_or_not (p ∷ ps) = by (cases_Bool (is_utf8 p.line)) (utf8_or_not ps)
  where
    by : (is_utf8 p.line ≡ true) ⊎ (is_utf8 p.line ≡ false) → (b : Bool) × (IsTrue b ↔ AreUtf8 ps) → (b : Bool) × (IsTrue b ↔ AreUtf8 (p ∷ ps))
    by (inl is) rest = (
      rest.0,
      (
        λ t. All-cons (λ (q : Piece). IsUtf8 q.line) p ps (IsUtf8-from_is_utf8 p.line is) (rest.1.0 t),
        λ all. rest.1.1 (All-tail (λ (q : Piece). IsUtf8 q.line) p ps all),
      ),
    )
    by (inr bad) rest = (
      false,
      (
        λ t. absurd (false≢true t),
        λ all. absurd (false≢true (sym bad ∙ is_utf8-from_IsUtf8 p.line (All-head (λ (q : Piece). IsUtf8 q.line) p ps all))),
      ),
    )

-- the white space in front of a text
record Gap (text : List ℕ) : Type 0 where
  gap : List ℕ
  words : List ℕ
  span : IsSpan is_white text gap words

gap_of : (text : List ℕ) → Gap text
gap_of [] = record { gap = []; words = []; span = record { spelled = refl; all = All-nil (λ b. is_white b ≡ true); stops = tt } }
gap_of (b ∷ text) = by (cases_Bool (is_white b)) (gap_of text)
  where
    by : (is_white b ≡ true) ⊎ (is_white b ≡ false) → Gap text → Gap (b ∷ text)
    by (inl white) rest = record {
      gap = b ∷ rest.gap;
      words = rest.words;
      span = record { spelled = ap (λ (l : List ℕ). b ∷ l) rest.span.spelled; all = All-cons (λ x. is_white x ≡ true) b rest.gap white rest.span.all; stops = rest.span.stops };
    }
    by (inr other) rest = record { gap = []; words = b ∷ text; span = record { spelled = refl; all = All-nil (λ x. is_white x ≡ true); stops = other } }

white_or_word : (text gap words : List ℕ) → IsSpan is_white text gap words → AllPass is_white text ⊎ BeginsBehind text (length gap)
white_or_word text gap [] span = inl (subst (AllPass is_white) (sym (span.spelled ∙ append-nil gap)) span.all)
white_or_word text gap (w ∷ words) span = inr (record { gap = gap; words = w ∷ words; span = span; some = omega arith; count_is = refl })

-- the place of the first word of pieces
word_or_white : (pieces : List Piece) → AllPass is_white (text_of pieces) ⊎ ((place : Place) × HasWordAt pieces place)
word_or_white [] = inl (All-nil (λ b. is_white b ≡ true))
word_or_white (p ∷ ps) = by (let g = gap_of p.text in white_or_word p.text g.gap g.words g.span) (word_or_white ps)
  where
    by : AllPass is_white p.text ⊎ BeginsBehind p.text (length (gap_of p.text).gap) → AllPass is_white (text_of ps) ⊎ ((place : Place) × HasWordAt ps place) →
        AllPass is_white (text_of (p ∷ ps)) ⊎ ((place : Place) × HasWordAt (p ∷ ps) place)
    by (inl white) (inl rest) = inl (All-append (λ b. is_white b ≡ true) p.text (text_of ps) white rest)
    by (inl white) (inr later) = inr (later.0, inr (white, later.1))
    by (inr begins) rest =
        let count = length (gap_of p.text).gap in
        inr (record { line = p.number; byte = min (count + 1) 4294967295 }, inl (count, begins, refl))

place_of : (number : ℕ) (pieces : List Piece) → (place : Place) × IsPlacedAt number pieces place
place_of number pieces =
    elim (word_or_white pieces) [ inl white ↦ (record { line = number; byte = 1 }, inr (white, refl)) | inr word ↦ (word.0, inl word.1) ]

line_of : (number : ℕ) (pieces : List Piece) → (l : LineSaid) × IsLineOf number pieces l
line_of number pieces =
    let utf8 = utf8_or_not pieces in
    let place = place_of number pieces in
    (record { text = text_of pieces; is_utf8 = utf8.0; place = place.0 }, record { text = refl; utf8 = utf8.1; place = place.1 })

-- the first line
record First (number : ℕ) (physical : List (List ℕ)) (count : ℕ) : Type 0 where
  pieces : List Piece
  next : ℕ
  rest : List (List ℕ)
  one : IsOneLine number physical pieces next rest
  fewer : length rest ≤ count

alone : (number : ℕ) (line : List ℕ) (later : List (List ℕ)) (p : Piece) → IsPiece number line p → IsLast p later → First number (line ∷ later) (length later)
alone number line later p is last = record {
  pieces = p ∷ [];
  next = following number;
  rest = later;
  one = (is, inl (last, refl, refl, refl));
  fewer = omega arith;
}

joined : (number : ℕ) (line : List ℕ) (later : List (List ℕ)) (count : ℕ) (p : Piece) → IsPiece number line p → p.joins ≡ true → count ≤ length later → First (following number) later count → First number (line ∷ later) (length later)
joined number line later count p is joins low first = record {
  pieces = p ∷ first.pieces;
  next = first.next;
  rest = first.rest;
  one = (is, inr (joins, first.one));
  fewer = omega (arith, first.fewer);
}

first_of : (number : ℕ) (line : List ℕ) (later : List (List ℕ)) → First number (line ∷ later) (length later)
first_of number line [] = let p = piece_of number line in alone number line [] p.piece p.is (inr refl)
first_of number line (l ∷ later) = by (piece_of number line) (first_of (following number) l later)
  where
    by : OfLine number line → First (following number) (l ∷ later) (length later) → First number (line ∷ l ∷ later) (length (l ∷ later))
    by p rest =
        elim (cases_Bool p.piece.joins) [
          | inl joins ↦ joined number line (l ∷ later) (length later) p.piece p.is joins (omega arith) rest
          | inr ends ↦ alone number line (l ∷ later) p.piece p.is (inl ends)
        ]

lines_within : (n number : ℕ) (physical : List (List ℕ)) → length physical ≤ n → HasLines number physical
lines_within n number [] low = record { ls = []; are = refl }
lines_within zero number (line ∷ later) low = absurd (omega (arith, low))
lines_within (suc n) number (line ∷ later) low =
    let first = first_of number line later in
    let l = line_of number first.pieces in
    let rest = lines_within n first.next first.rest (omega (arith, first.fewer, low)) in
    record { ls = l.0 ∷ rest.ls; are = (first.next, first.rest, record { pieces = first.pieces; one = first.one; is = l.1 }, rest.are) }

pub has_lines : (number : ℕ) (physical : List (List ℕ)) → HasLines number physical
has_lines number physical = lines_within (length physical) number physical (omega arith)
