-- Physical lines make one list of lines.
use Rattle.std.proofs.Common.{◌≡◌, ◌+◌, ◌↔◌, inl, inr, ℕ, Bool, true, false, min, List, [], ◌∷◌, IsTrue, length, refl, sym, ap, ◌∙◌, subst, arith}
use Rattle.std.specs.Prelude.{IsUtf8}
use Rattle.std.specs.List.{All, AllPass}
use Rattle.std.proofs.lemmas.List.{same_from_push}
use Rattle.vtr_base.specs.Spans.{is_white}
use Rattle.vtr_base.specs.declared.place.Place.{Place}
use Rattle.blif_lines.specs.Physical.{Piece, IsPiece, IsBeforeComment, IsLeft, following}
use Rattle.blif_lines.specs.Lines.{LineSaid, IsLast, IsOneLine, IsLineOf, IsNextLine, AreLinesFrom, text_of, BeginsBehind, IsWordPlace, HasWordAt, IsPlacedAt}
use Rattle.blif_lines.proofs.Cuts.{same_cut, not_cut, same_span, filled_behind}
use Rattle.blif_lines.proofs.Parts.{front_white, back_white}

one_said : (line said other : List ℕ) → IsBeforeComment line said → IsBeforeComment line other → said ≡ other
one_said line said other (inl a) (inl b) = a.1 ∙ sym b.1
one_said line said other (inl a) (inr b) = absurd (not_cut 35 line other b.0 a.0 b.1)
one_said line said other (inr a) (inl b) = absurd (not_cut 35 line said a.0 b.0 a.1)
one_said line said other (inr a) (inr b) = (same_cut 35 line said a.0 other b.0 a.1 b.1).0

one_left : (said text other : List ℕ) (joins also : Bool) → IsLeft said text joins → IsLeft said other also → (text ≡ other) × (joins ≡ also)
one_left said text other joins also (inl a) (inl b) = ((same_from_push text other 92 92 (sym a.1 ∙ b.1)).0, a.0 ∙ sym b.0)
one_left said text other joins also (inl a) (inr b) = absurd (b.2 text a.1)
one_left said text other joins also (inr a) (inl b) = absurd (a.2 other b.1)
one_left said text other joins also (inr a) (inr b) = (sym a.1 ∙ b.1, a.0 ∙ sym b.0)

abbrev piece_of : ℕ → List ℕ → List ℕ → Bool → Piece
piece_of number line text joins = record { number = number; line = line; text = text; joins = joins }

one_piece : (number : ℕ) (line : List ℕ) (p q : Piece) → IsPiece number line p → IsPiece number line q → p ≡ q
one_piece number line p q a b =
    let said = one_said line a.said b.said a.before_comment b.before_comment in
    let left = one_left b.said p.text q.text p.joins q.joins (subst (λ s. IsLeft s p.text p.joins) said a.left) b.left in
    ap (λ n. piece_of n p.line p.text p.joins) (a.number_is ∙ sym b.number_is) ∙
    (ap (λ l. piece_of q.number l p.text p.joins) (a.line_is ∙ sym b.line_is) ∙
    (ap (λ t. piece_of q.number q.line t p.joins) left.0 ∙ ap (λ j. piece_of q.number q.line q.text j) left.1))

abbrev pub AreOne : List Piece → List Piece → ℕ → ℕ → List (List ℕ) → List (List ℕ) → Type 0
AreOne ps qs n m r s = (ps ≡ qs) × (n ≡ m) × (r ≡ s)

goes_not_on : (p q : Piece) (number : ℕ) (later : List (List ℕ)) (qs : List Piece) (m : ℕ) (s : List (List ℕ)) →
    p ≡ q → IsLast p later → q.joins ≡ true → IsOneLine number later qs m s → ⊥
goes_not_on p q number later qs m s same (inl last) joins one = let both : true ≡ false = sym joins ∙ (ap (λ x. x.joins) (sym same) ∙ last) in cc
goes_not_on p q number later qs m s same (inr none) joins one = subst (λ l. IsOneLine number l qs m s) none one

one_line : (number : ℕ) (physical : List (List ℕ)) (ps qs : List Piece) (n m : ℕ) (r s : List (List ℕ)) →
    IsOneLine number physical ps n r → IsOneLine number physical qs m s → AreOne ps qs n m r s
one_line number [] ps qs n m r s a b = absurd a
one_line number (line ∷ later) [] qs n m r s a b = absurd a
one_line number (line ∷ later) (p ∷ ps) [] n m r s a b = absurd b
one_line number (line ∷ later) (p ∷ ps) (q ∷ qs) n m r s (is_p, inl x) (is_q, inl y) =
    let same = one_piece number line p q is_p is_q in
    let others : ps ≡ qs = x.1 ∙ sym y.1 in
    (cc (same, others), x.2 ∙ sym y.2, x.3 ∙ sym y.3)
one_line number (line ∷ later) (p ∷ ps) (q ∷ qs) n m r s (is_p, inl x) (is_q, inr y) =
    absurd (goes_not_on p q (following number) later qs m s (one_piece number line p q is_p is_q) x.0 y.0 y.1)
one_line number (line ∷ later) (p ∷ ps) (q ∷ qs) n m r s (is_p, inr x) (is_q, inl y) =
    absurd (goes_not_on q p (following number) later ps n r (one_piece number line q p is_q is_p) y.0 x.0 x.1)
one_line number (line ∷ later) (p ∷ ps) (q ∷ qs) n m r s (is_p, inr x) (is_q, inr y) =
    let same = one_piece number line p q is_p is_q in
    let rest = one_line (following number) later ps qs n m r s x.1 y.1 in
    let others = rest.0 in
    (cc (same, others), rest.1, rest.2)

one_gap : (text : List ℕ) (a b : ℕ) → BeginsBehind text a → BeginsBehind text b → a ≡ b
one_gap text a b x y =
    let same = same_span is_white text x.gap x.words y.gap y.words x.span y.span in
    omega (arith, ap length same.0, x.count_is, y.count_is)

one_word_place : (p : Piece) (a b : Place) → IsWordPlace p a → IsWordPlace p b → a ≡ b
one_word_place p a b x y =
    x.2 ∙ (ap (λ (n : ℕ). place_at p.number (min (n + 1) 4294967295)) (one_gap p.text x.0 y.0 x.1 y.1) ∙ sym y.2)
  where
    place_at : ℕ → ℕ → Place
    place_at line byte = record { line = line; byte = byte }

one_first_word : (ps : List Piece) (a b : Place) → HasWordAt ps a → HasWordAt ps b → a ≡ b
one_first_word [] a b x y = absurd x
one_first_word (p ∷ ps) a b (inl x) (inl y) = one_word_place p a b x y
one_first_word (p ∷ ps) a b (inl x) (inr y) = absurd (filled_behind p.text x.0 x.1 y.0)
one_first_word (p ∷ ps) a b (inr x) (inl y) = absurd (filled_behind p.text y.0 y.1 x.0)
one_first_word (p ∷ ps) a b (inr x) (inr y) = one_first_word ps a b x.1 y.1

no_word_in_white : (ps : List Piece) (place : Place) → HasWordAt ps place → AllPass is_white (text_of ps) → ⊥
no_word_in_white [] place x white = absurd x
no_word_in_white (p ∷ ps) place (inl x) white = filled_behind p.text x.0 x.1 (front_white p.text (text_of ps) white)
no_word_in_white (p ∷ ps) place (inr x) white = no_word_in_white ps place x.1 (back_white p.text (text_of ps) white)

one_place : (number : ℕ) (ps : List Piece) (a b : Place) → IsPlacedAt number ps a → IsPlacedAt number ps b → a ≡ b
one_place number ps a b (inl x) (inl y) = one_first_word ps a b x y
one_place number ps a b (inl x) (inr y) = absurd (no_word_in_white ps a x y.0)
one_place number ps a b (inr x) (inl y) = absurd (no_word_in_white ps b y x.0)
one_place number ps a b (inr x) (inr y) = x.1 ∙ sym y.1

one_truth : (a b : Bool) (X : Type 0) → IsTrue a ↔ X → IsTrue b ↔ X → a ≡ b
one_truth true true X a b = refl
one_truth true false X a b = sym (b.1 (a.0 refl))
one_truth false true X a b = a.1 (b.0 refl)
one_truth false false X a b = refl

abbrev said_of : List ℕ → Bool → Place → LineSaid
said_of text is_utf8 place = record { text = text; is_utf8 = is_utf8; place = place }

one_said_line : (number : ℕ) (ps : List Piece) (l m : LineSaid) → IsLineOf number ps l → IsLineOf number ps m → l ≡ m
one_said_line number ps l m a b =
    ap (λ t. said_of t l.is_utf8 l.place) (a.text ∙ sym b.text) ∙
    (ap (λ u. said_of m.text u l.place) (one_truth l.is_utf8 m.is_utf8 (All (λ p. IsUtf8 p.line) ps) a.utf8 b.utf8) ∙
    ap (λ p. said_of m.text m.is_utf8 p) (one_place number ps l.place m.place a.place b.place))

some_physical : (number : ℕ) (l : LineSaid) (next : ℕ) (rest : List (List ℕ)) → IsNextLine number [] l next rest → ⊥
some_physical number l next rest is = is.one

pub one_lines : (number : ℕ) (physical : List (List ℕ)) (ls ms : List LineSaid) → AreLinesFrom number physical ls → AreLinesFrom number physical ms → ls ≡ ms
one_lines number physical [] [] a b = refl
one_lines number physical [] (m ∷ ms) a b = absurd (some_physical number m b.0 b.1 (subst (λ p. IsNextLine number p m b.0 b.1) a b.2))
one_lines number physical (l ∷ ls) [] a b = absurd (some_physical number l a.0 a.1 (subst (λ p. IsNextLine number p l a.0 a.1) b a.2))
one_lines number physical (l ∷ ls) (m ∷ ms) a b =
    let one = one_line number physical a.2.pieces b.2.pieces a.0 b.0 a.1 b.1 a.2.one b.2.one in
    let here : l ≡ m = one_said_line number b.2.pieces l m (subst (λ ps. IsLineOf number ps l) one.0 a.2.is) b.2.is in
    let later : AreLinesFrom b.0 b.1 ls = subst (λ r. AreLinesFrom b.0 r ls) one.2 (subst (λ n. AreLinesFrom n a.1 ls) one.1 a.3) in
    let others = one_lines b.0 b.1 ls ms later b.3 in
    cc (here, others)

pub one_next : (number : ℕ) (physical : List (List ℕ)) (l m : LineSaid) (next other : ℕ) (rest behind : List (List ℕ)) →
    IsNextLine number physical l next rest → IsNextLine number physical m other behind → (l ≡ m) × (next ≡ other) × (rest ≡ behind)
one_next number physical l m next other rest behind a b =
    let one = one_line number physical a.pieces b.pieces next other rest behind a.one b.one in
    (one_said_line number b.pieces l m (subst (λ ps. IsLineOf number ps l) one.0 a.is) b.is, one.1, one.2)
