-- A text sets one list of bits, or is refused in one way.
use Rattle.std.proofs.Common.{◌≡◌, ◌+◌, inl, inr, ℕ, min, List, [], ◌∷◌, ◌++◌, length, refl, sym, ap, ◌∙◌, subst, arith}
use Rattle.std.specs.Str.Lines.{lines}
use Rattle.fasm_text.specs.declared.error.FasmError.{FasmError}
use Rattle.fasm_text.specs.declared.error.FasmError.TheVariants.{BadFasm, ValueWide, OutOfMemory}
use Rattle.fasm_text.specs.Sets.{NamedBit, set_from, IsWide}
use Rattle.fasm_text.specs.Texts.{LineSets, LinesSet, TextSets, RefusesLine, line_number, StopsAt, RefusesText, AreOneRefusal}
use Rattle.fasm_text.proofs.Giving.{one_line_giving, nothing_given}

line_sets_once : (line : List ℕ) (a b : List NamedBit) → LineSets line a → LineSets line b → a ≡ b
line_sets_once line a b (inl x) (inl y) = x.1 ∙ sym y.1
line_sets_once line a b (inl x) (inr y) = absurd (nothing_given line y.0 x.0 y.1)
line_sets_once line a b (inr x) (inl y) = absurd (nothing_given line x.0 y.0 x.1)
line_sets_once line a b (inr x) (inr y) = x.3 ∙ (ap (λ g. set_from g.name g.lo g.bits) (one_line_giving line x.0 y.0 x.1 y.1) ∙ sym y.3)

lines_set_once : (ls : List (List ℕ)) (a b : List NamedBit) → LinesSet ls a → LinesSet ls b → a ≡ b
lines_set_once [] a b x y = x ∙ sym y
lines_set_once (line ∷ ls) a b x y =
    x.4 ∙ (ap (λ h. h ++ x.1) (line_sets_once line x.0 y.0 x.2 y.2) ∙ (ap (λ r. y.0 ++ r) (lines_set_once ls x.1 y.1 x.3 y.3) ∙ sym y.4))

pub one_set : (bytes : List ℕ) (a b : List NamedBit) → TextSets bytes a → TextSets bytes b → a ≡ b
one_set bytes a b x y = lines_set_once (lines bytes) a b x y

-- a line that sets bits is refused by want of memory alone
set_not_refused : (line : List ℕ) (set : List NamedBit) (n : ℕ) (e : FasmError) → LineSets line set → RefusesLine line n e → e ≡ OutOfMemory
set_not_refused line set n (BadFasm at) (inl x) r = absurd (r.1 x.0)
set_not_refused line set n (BadFasm at) (inr x) r = absurd (r.2 x.0 x.1)
set_not_refused line set n (ValueWide at) (inl x) r = absurd (nothing_given line r.1.0 x.0 r.1.1)
set_not_refused line set n (ValueWide at) (inr x) r =
    absurd (x.2 (subst (λ g. IsWide g.lo g.hi g.bits) (one_line_giving line r.1.0 x.0 r.1.1 x.1) r.1.2))
set_not_refused line set n OutOfMemory x r = refl

lines_not_refused : (front : List (List ℕ)) (line : List ℕ) (behind : List (List ℕ)) (set : List NamedBit) (n : ℕ) (e : FasmError) →
    LinesSet (front ++ line ∷ behind) set → RefusesLine line n e → e ≡ OutOfMemory
lines_not_refused [] line behind set n e x r = set_not_refused line x.0 n e x.2 r
lines_not_refused (f ∷ front) line behind set n e x r = lines_not_refused front line behind x.1 n e x.3 r

pub never_refused : (bytes : List ℕ) (set : List NamedBit) (e : FasmError) → TextSets bytes set → RefusesText bytes e → e ≡ OutOfMemory
never_refused bytes set (BadFasm at) x r =
    lines_not_refused r.front r.line r.behind set (line_number r.front) (BadFasm at) (subst (λ ls. LinesSet ls set) r.spelled x) r.refuses
never_refused bytes set (ValueWide at) x r =
    lines_not_refused r.front r.line r.behind set (line_number r.front) (ValueWide at) (subst (λ ls. LinesSet ls set) r.spelled x) r.refuses
never_refused bytes set OutOfMemory x r = refl

one_line_refusal : (line : List ℕ) (n : ℕ) (e f : FasmError) → RefusesLine line n e → RefusesLine line n f → AreOneRefusal e f
one_line_refusal line n (BadFasm at) (BadFasm to) r s = inl (ap BadFasm (r.0 ∙ sym s.0))
one_line_refusal line n (BadFasm at) (ValueWide to) r s = absurd (r.2 s.1.0 s.1.1)
one_line_refusal line n (ValueWide at) (BadFasm to) r s = absurd (s.2 r.1.0 r.1.1)
one_line_refusal line n (ValueWide at) (ValueWide to) r s = inl (ap ValueWide (r.0 ∙ sym s.0))
one_line_refusal line n OutOfMemory f r s = inr (inl refl)
one_line_refusal line n e OutOfMemory r s = inr (inr refl)

-- two places at which the lines of a text stop are one
first_once : (before : ℕ) (front : List (List ℕ)) (line : List ℕ) (behind : List (List ℕ)) (set : List NamedBit) (e : FasmError)
    (above : List (List ℕ)) (other : List ℕ) (below : List (List ℕ)) (also : List NamedBit) (f : FasmError) →
    front ++ line ∷ behind ≡ above ++ other ∷ below → LinesSet front set → LinesSet above also →
    RefusesLine line (min (before + length front) 4294967295) e → RefusesLine other (min (before + length above) 4294967295) f → AreOneRefusal e f
first_once before [] line behind set e [] other below also f same x y r s =
    let lines_are : line ≡ other = cc in
    one_line_refusal other (min (before + 0) 4294967295) e f (subst (λ l. RefusesLine l (min (before + 0) 4294967295) e) lines_are r) s
first_once before [] line behind set e (a ∷ above) other below also f same x y r s =
    let lines_are : a ≡ line = cc in
    inr (inl (set_not_refused line y.0 (min (before + 0) 4294967295) e (subst (λ l. LineSets l y.0) lines_are y.2) r))
first_once before (a ∷ front) line behind set e [] other below also f same x y r s =
    let lines_are : a ≡ other = cc in
    inr (inr (set_not_refused other x.0 (min (before + 0) 4294967295) f (subst (λ l. LineSets l x.0) lines_are x.2) s))
first_once before (a ∷ front) line behind set e (b ∷ above) other below also f same x y r s =
    let later : front ++ line ∷ behind ≡ above ++ other ∷ below = cc in
    first_once (before + 1) front line behind x.1 e above other below y.1 f later x.3 y.3
    (subst (λ n. RefusesLine line (min n 4294967295) e) (omega arith) r) (subst (λ n. RefusesLine other (min n 4294967295) f) (omega arith) s)

one_stop : (bytes : List ℕ) (e f : FasmError) → StopsAt bytes e → StopsAt bytes f → AreOneRefusal e f
one_stop bytes e f r s =
    first_once 1 r.front r.line r.behind r.set e s.front s.line s.behind s.set f (sym r.spelled ∙ s.spelled) r.sets s.sets r.refuses s.refuses

pub one_refusal : (bytes : List ℕ) (e f : FasmError) → RefusesText bytes e → RefusesText bytes f → AreOneRefusal e f
one_refusal bytes OutOfMemory f r s = inr (inl refl)
one_refusal bytes e OutOfMemory r s = inr (inr refl)
one_refusal bytes (BadFasm at) (BadFasm to) r s = one_stop bytes (BadFasm at) (BadFasm to) r s
one_refusal bytes (BadFasm at) (ValueWide to) r s = one_stop bytes (BadFasm at) (ValueWide to) r s
one_refusal bytes (ValueWide at) (BadFasm to) r s = one_stop bytes (ValueWide at) (BadFasm to) r s
one_refusal bytes (ValueWide at) (ValueWide to) r s = one_stop bytes (ValueWide at) (ValueWide to) r s
