-- The one word of a text.
use Rattle.std.proofs.Common.{◌≡◌, ◌==◌, ◌<◌, ℕ, Bool, true, false, not, List, [], ◌∷◌, ◌++◌, length, refl, sym, ap, ◌∙◌, subst, arith}
use Rattle.std.specs.List.{AllPass}
use Rattle.std.proofs.lemmas.Bool.Decides.{nat_tests}
use Rattle.std.proofs.lemmas.List.Elements.{All-head, All-tail}
use Rattle.vtr_base.specs.Spans.{Stops, IsSpan, IsCut}
use Rattle.fasm_text.specs.Lines.{is_blank, is_filled, HasOneWord}
use Rattle.fasm_text.proofs.Cuts.{one_span, not_both}

unnot : (v : Bool) → not v ≡ true → v ≡ false
unnot true e = cc
unnot false e = refl

renot : (v : Bool) → v ≡ true → not v ≡ false
renot true e = refl
renot false e = cc

stops_at_word : (word rest : List ℕ) → 0 < length word → AllPass is_filled word → Stops is_blank (word ++ rest)
stops_at_word [] rest some filled = absurd (omega arith)
stops_at_word (b ∷ bs) rest some filled = unnot (is_blank b) (All-head (λ v. is_filled v ≡ true) b bs filled)

stops_at_blank : (text : List ℕ) → AllPass is_blank text → Stops is_filled text
stops_at_blank [] blank = tt
stops_at_blank (b ∷ bs) blank = renot (is_blank b) (All-head (λ v. is_blank v ≡ true) b bs blank)

-- the spans of a text with one word are that word and blanks
pub found_word : (text gap rest word behind w : List ℕ) → IsSpan is_blank text gap rest → IsSpan is_filled rest word behind → HasOneWord text w →
    (word ≡ w) × AllPass is_blank behind
found_word text gap rest word behind w s t h =
    let first = one_span is_blank gap h.before rest (w ++ h.behind) s.all h.blank_before s.stops (stops_at_word w h.behind h.some h.whole) (sym s.spelled ∙ h.spelled) in
    let second = one_span is_filled word w behind h.behind t.all h.whole t.stops (stops_at_blank h.behind h.blank_behind) (sym t.spelled ∙ first.1) in
    (second.0, subst (AllPass is_blank) (sym second.1) h.blank_behind)

pub no_word : (text gap rest word behind : List ℕ) → IsSpan is_blank text gap rest → IsSpan is_filled rest word behind → length word ≡ 0 → (w : List ℕ) → HasOneWord text w → ⊥
no_word text gap rest word behind s t none w h =
    let same = (found_word text gap rest word behind w s t h).0 in
    omega (arith, none, ap length same, h.some)

pub two_words : (text gap rest word behind : List ℕ) → IsSpan is_blank text gap rest → IsSpan is_filled rest word behind → (AllPass is_blank behind → ⊥) → (w : List ℕ) → HasOneWord text w → ⊥
two_words text gap rest word behind s t more w h = more (found_word text gap rest word behind w s t h).1

-- a text has one word
pub same_word : (text v w : List ℕ) → HasOneWord text v → HasOneWord text w → v ≡ w
same_word text v w g h =
    let first = one_span is_blank g.before h.before (v ++ g.behind) (w ++ h.behind) g.blank_before h.blank_before
    (stops_at_word v g.behind g.some g.whole) (stops_at_word w h.behind h.some h.whole) (sym g.spelled ∙ h.spelled) in
    (one_span is_filled v w g.behind h.behind g.whole h.whole (stops_at_blank g.behind g.blank_behind) (stops_at_blank h.behind h.blank_behind) first.1).0

-- blanks alone hold no word, and no `=`
blank_behind : (a x : List ℕ) → AllPass is_blank (a ++ x) → AllPass is_blank x
blank_behind [] x h = h
blank_behind (b ∷ a) x h = blank_behind a x (All-tail (λ v. is_blank v ≡ true) b (a ++ x) h)

pub no_blank_word : (text word : List ℕ) → AllPass is_blank text → HasOneWord text word → ⊥
no_blank_word text word blank h = by word h.some h.whole (blank_behind h.before (word ++ h.behind) (subst (AllPass is_blank) h.spelled blank))
  where
    by : (w : List ℕ) → 0 < length w → AllPass is_filled w → AllPass is_blank (w ++ h.behind) → ⊥
    by [] some filled all = omega arith
    by (b ∷ bs) some filled all =
        not_both (is_blank b) (All-head (λ v. is_blank v ≡ true) b (bs ++ h.behind) all) (unnot (is_blank b) (All-head (λ v. is_filled v ≡ true) b bs filled))

pub equals_not_blank : (text left right : List ℕ) → AllPass is_blank text → IsCut text 61 left right → ⊥
equals_not_blank text left right blank cut =
    no_equals (All-head (λ v. is_blank v ≡ true) 61 right (blank_behind left (61 ∷ right) (subst (AllPass is_blank) cut.spelled blank)))
  where
    no_equals : is_blank 61 ≡ true → ⊥
    no_equals e = cc

pub is_empty_true : (n : ℕ) (test : Bool) → test ≡ (n == 0) → test ≡ true → n ≡ 0
is_empty_true n test is t = grind (arith, nat_tests)
