-- A text is read in one way: cuts, spans, ranges, parts and words.
use Rattle.std.proofs.Common.{◌≡◌, ◌==◌, ◌<◌, ◌≤◌, inl, inr, ℕ, Bool, true, false, not, List, [], ◌∷◌, ◌++◌, Some, None, length, refl, sym, ◌∙◌, ap, subst, arith}
use Rattle.std.specs.List.{AllPass}
use Rattle.std.specs.Char.{digit_value}
use Rattle.std.specs.Str.Parse.{AllDigits}
use Rattle.std.proofs.lemmas.Bool.Decides.{nat_tests}
use Rattle.std.proofs.lemmas.List.Elements.{All-head, All-tail, All-nil, All-cons}
use Rattle.vtr_base.specs.Spans.{is_white, is_word_byte, Lacks, Stops, IsSpan, AreWords}
use Rattle.mode_edges.specs.declared.word.Ends.{Ends}
use Rattle.mode_edges.specs.PinWords.{Index, AreDigits, IsRange, IsPart, Word, IsWord}

pub not_both : (v : Bool) → v ≡ true → v ≡ false → ⊥
not_both v t f = cc

not_same : (b s : ℕ) → not (b == s) ≡ true → b ≡ s → ⊥
not_same b s h e = grind (arith, nat_tests)

same_not : (b s : ℕ) → (b ≡ s → ⊥) → not (b == s) ≡ true
same_not b s h = grind (arith, nat_tests)

-- a text that lacks a byte doesn't hold it
pub uncut : (s : ℕ) (text front back : List ℕ) → Lacks text s → text ≡ front ++ s ∷ back → ⊥
uncut s [] [] back h e = cc
uncut s [] (f ∷ fs) back h e = cc
uncut s (t ∷ ts) [] back h e = not_same t s (All-head (λ x. not (x == s) ≡ true) t ts h) (cc)
uncut s (t ∷ ts) (f ∷ fs) back h e =
    let rest : ts ≡ fs ++ s ∷ back = cc in
    uncut s ts fs back (All-tail (λ x. not (x == s) ≡ true) t ts h) rest

-- one first place of a byte
pub one_cut : (s : ℕ) (a b x y : List ℕ) → Lacks a s → Lacks b s → a ++ s ∷ x ≡ b ++ s ∷ y → (a ≡ b) × (x ≡ y)
one_cut s [] [] x y in_a in_b e = (refl, cc)
one_cut s [] (b ∷ bs) x y in_a in_b e = absurd (not_same b s (All-head (λ x. not (x == s) ≡ true) b bs in_b) (cc))
one_cut s (a ∷ es) [] x y in_a in_b e = absurd (not_same a s (All-head (λ x. not (x == s) ≡ true) a es in_a) (cc))
one_cut s (a ∷ es) (b ∷ bs) x y in_a in_b e =
    let rest : es ++ s ∷ x ≡ bs ++ s ∷ y = cc in
    let k = one_cut s es bs x y (All-tail (λ x. not (x == s) ≡ true) a es in_a) (All-tail (λ x. not (x == s) ≡ true) b bs in_b) rest in
    (cc, k.1)

-- one longest front of a class of bytes
pub one_span : (p : ℕ → Bool) (a b x y : List ℕ) → AllPass p a → AllPass p b → Stops p x → Stops p y → a ++ x ≡ b ++ y → (a ≡ b) × (x ≡ y)
one_span p [] [] x y in_a in_b sx sy e = (refl, e)
one_span p [] (b ∷ bs) x y in_a in_b sx sy e =
    let stop : p b ≡ false = subst (λ l. Stops p l) e sx in
    absurd (not_both (p b) (All-head (λ v. p v ≡ true) b bs in_b) stop)
one_span p (a ∷ es) [] x y in_a in_b sx sy e =
    let stop : p a ≡ false = subst (λ l. Stops p l) (sym e) sy in
    absurd (not_both (p a) (All-head (λ v. p v ≡ true) a es in_a) stop)
one_span p (a ∷ es) (b ∷ bs) x y in_a in_b sx sy e =
    let rest : es ++ x ≡ bs ++ y = cc in
    let k = one_span p es bs x y (All-tail (λ v. p v ≡ true) a es in_a) (All-tail (λ v. p v ≡ true) b bs in_b) sx sy rest in
    (cc, k.1)

same_span : (p : ℕ → Bool) (text a x b y : List ℕ) → IsSpan p text a x → IsSpan p text b y → (a ≡ b) × (x ≡ y)
same_span p text a x b y s t = one_span p a b x y s.all t.all s.stops t.stops (sym s.spelled ∙ t.spelled)

behind_passes : (p : ℕ → Bool) (a x : List ℕ) → AllPass p (a ++ x) → AllPass p x
behind_passes p [] x h = h
behind_passes p (a ∷ es) x h = behind_passes p es x (All-tail (λ v. p v ≡ true) a (es ++ x) h)

-- white space alone holds no word
pub no_word : (text gap behind word rest : List ℕ) → AllPass is_white text → IsSpan is_white text gap behind → IsSpan is_word_byte behind word rest → 0 < length word → ⊥
no_word text gap behind [] rest white s w some = omega arith
no_word text gap behind (c ∷ cs) rest white s w some =
    let all : AllPass is_white (gap ++ behind) = subst (AllPass is_white) s.spelled white in
    let tail : AllPass is_white (c ∷ (cs ++ rest)) = subst (AllPass is_white) w.spelled (behind_passes is_white gap behind all) in
    let bright : is_white c ≡ true = All-head (λ v. is_white v ≡ true) c (cs ++ rest) tail in
    let word_and_rest : not (is_white c) ≡ true = All-head (λ v. is_word_byte v ≡ true) c cs w.all in
    not_both (is_white c) bright (unnot (is_white c) word_and_rest)
  where
    unnot : (v : Bool) → not v ≡ true → v ≡ false
    unnot true e = cc
    unnot false e = refl

-- the words of a text are one list
pub words_one : (ws vs : List (List ℕ)) (text : List ℕ) → AreWords text ws → AreWords text vs → ws ≡ vs
words_one [] [] text a b = refl
words_one [] (v ∷ vs) text a b = absurd (no_word text b.0 b.1 v b.2 a b.3 b.4 b.5)
words_one (w ∷ ws) [] text a b = absurd (no_word text a.0 a.1 w a.2 b a.3 a.4 a.5)
words_one (w ∷ ws) (v ∷ vs) text a b =
    let gaps = same_span is_white text a.0 a.1 b.0 b.1 a.3 b.3 in
    let first = subst (λ behind. IsSpan is_word_byte behind v b.2) (sym gaps.1) b.4 in
    let both = same_span is_word_byte a.1 w a.2 v b.2 a.4 first in
    let more = words_one ws vs a.2 a.6 (subst (λ rest. AreWords rest vs) (sym both.1) b.6) in
    cc

-- a byte that is no digit stands in no number
digits_lack : (s : ℕ) (text : List ℕ) → 10 ≤ digit_value s → AllDigits 10 text → Lacks text s
digits_lack s [] large all = All-nil (λ x. not (x == s) ≡ true)
digits_lack s (t ∷ ts) large all =
    All-cons (λ x. not (x == s) ≡ true) t ts (same_not t s (λ e. absurd (omega (arith, all.0, large, ap digit_value e))))
    (digits_lack s ts large all.1)

pub no_colon : (text : List ℕ) (n : ℕ) → AreDigits text n → Lacks text 58
no_colon text n d = digits_lack 58 text (omega arith) d.digits.1

pub one_number : (text : List ℕ) (m n : ℕ) → AreDigits text m → AreDigits text n → m ≡ n
one_number text m n a b = sym a.value ∙ b.value

-- a range has one smaller and one larger end
pub range_one : (text : List ℕ) (lo hi lo' hi' : ℕ) → IsRange text lo hi → IsRange text lo' hi' → (lo ≡ lo') × (hi ≡ hi')
range_one text lo hi lo' hi' (inl a) (inl b) = let e = one_number text lo lo' a.0 b.0 in (e, cc)
range_one text lo hi lo' hi' (inl a) (inr b) = absurd (uncut 58 text b.one b.other (no_colon text lo a.0) b.spelled)
range_one text lo hi lo' hi' (inr a) (inl b) = absurd (uncut 58 text a.one a.other (no_colon text lo' b.0) a.spelled)
range_one text lo hi lo' hi' (inr a) (inr b) =
    let k = one_cut 58 a.one b.one a.other b.other (no_colon a.one a.m a.reads_m) (no_colon b.one b.m b.reads_m) (sym a.spelled ∙ b.spelled) in
    let m = one_number a.one a.m b.m a.reads_m (subst (λ t. AreDigits t b.m) (sym k.0) b.reads_m) in
    let l = one_number a.other a.l b.l a.reads_l (subst (λ t. AreDigits t b.l) (sym k.1) b.reads_l) in
    (cc, cc)

-- one last element
pub one_last : (es bs : List ℕ) (a b : ℕ) → es ++ a ∷ [] ≡ bs ++ b ∷ [] → (es ≡ bs) × (a ≡ b)
one_last [] [] a b e = (refl, cc)
one_last [] (y ∷ []) a b e = absurd (cc)
one_last [] (y ∷ z ∷ ys) a b e = absurd (cc)
one_last (x ∷ []) [] a b e = absurd (cc)
one_last (x ∷ w ∷ xs) [] a b e = absurd (cc)
one_last (x ∷ xs) (y ∷ ys) a b e =
    let rest : xs ++ a ∷ [] ≡ ys ++ b ∷ [] = cc in
    let k = one_last xs ys a b rest in
    (cc, k.1)

abbrev pub ends : ℕ → ℕ → Ends
ends l h = record { low = l; high = h }

abbrev word_with : List ℕ → List ℕ → Index → Word
word_with head port bits = record { head = head; port = port; bits = bits }

pub same_ends : (r q : Ends) → (r.low ≡ q.low) × (r.high ≡ q.high) → Some r ≡ Some q
same_ends r q e =
    ap (λ (l : ℕ). Some (ends l r.high)) e.0 ∙ ap (λ (h : ℕ). Some (ends q.low h)) e.1

-- a name with what stands in brackets behind it
pub part_one : (text name name' : List ℕ) (index index' : Index) → IsPart text name index → IsPart text name' index' → (name ≡ name') × (index ≡ index')
part_one text name name' None None a b = (sym a.0 ∙ b.0, refl)
part_one text name name' None (Some q) a b = absurd (uncut 91 text name' (b.0 ++ 93 ∷ []) (subst (λ t. Lacks t 91) (sym a.0) a.1) b.1)
part_one text name name' (Some r) None a b = absurd (uncut 91 text name (a.0 ++ 93 ∷ []) (subst (λ t. Lacks t 91) (sym b.0) b.1) a.1)
part_one text name name' (Some r) (Some q) a b =
    let k = one_cut 91 name name' (a.0 ++ 93 ∷ []) (b.0 ++ 93 ∷ []) a.2 b.2 (sym a.1 ∙ b.1) in
    let inside = one_last a.0 b.0 93 93 k.1 in
    (k.0, same_ends r q (range_one a.0 r.low r.high q.low q.high a.3 (subst (λ t. IsRange t q.low q.high) (sym inside.0) b.3)))

-- a word is cut in one way
pub word_one : (text : List ℕ) (w v : Word) → IsWord text w → IsWord text v → w ≡ v
word_one text w v a b =
    let k = one_cut 46 w.head v.head a.tail b.tail a.head_lacks b.head_lacks (sym a.spelled ∙ b.spelled) in
    let p = part_one a.tail w.port v.port w.bits v.bits a.is_port (subst (λ t. IsPart t v.port v.bits) (sym k.1) b.is_port) in
    ap (λ (h : List ℕ). word_with h w.port w.bits) k.0
    ∙ (ap (λ (n : List ℕ). word_with v.head n w.bits) p.0 ∙ ap (λ (i : Index). word_with v.head v.port i) p.1)

-- a range goes from its smaller end to its larger one
pub range_goes : (text : List ℕ) (lo hi : ℕ) → IsRange text lo hi → lo ≤ hi
range_goes text lo hi (inl a) = omega arith
range_goes text lo hi (inr a) = omega (arith, a.is_lo, a.is_hi)
