-- A word says one thing of one pin.
use Rattle.std.proofs.Common.{◌≡◌, inl, inr, ℕ, List, refl, sym, ap, ◌∙◌, subst}
use Rattle.std.specs.Str.Parse.{digits_value}
use Rattle.std.proofs.lemmas.List.{same_from_push}
use Rattle.vtr_base.specs.Spans.{Lacks, IsCut}
use Rattle.blif_boxes.specs.Pins.{ActualSaid, says_unconnected, says_net, PinSaid, IsBitBehind, IsFormal, IsActual, IsPinWord}
use Rattle.blif_boxes.proofs.OneCut.{same_cut, not_cut}

one_bit : (behind : List ℕ) (a b : ℕ) → IsBitBehind behind a → IsBitBehind behind b → a ≡ b
one_bit behind a b x y =
    let digits = (same_from_push x.digits y.digits 93 93 (sym x.spelled ∙ y.spelled)).0 in
    x.value ∙ (ap (digits_value 10) digits ∙ sym y.value)

one_formal : (formal p q : List ℕ) (a b : ℕ) → IsFormal formal p a → IsFormal formal q b → (p ≡ q) × (a ≡ b)
one_formal formal p q a b (inl x) (inl y) = (x.1 ∙ sym y.1, x.2 ∙ sym y.2)
one_formal formal p q a b (inl x) (inr y) = absurd (not_cut 91 formal q y.0 x.0 y.1)
one_formal formal p q a b (inr x) (inl y) = absurd (not_cut 91 formal p x.0 y.0 x.1)
one_formal formal p q a b (inr x) (inr y) =
    let c = same_cut 91 formal p x.0 q y.0 x.1 y.1 in
    (c.0, one_bit y.0 a b (subst (λ l. IsBitBehind l a) c.1 x.2) y.2)

one_actual : (actual : List ℕ) (a b : ActualSaid) → IsActual actual a → IsActual actual b → a ≡ b
one_actual actual says_unconnected says_unconnected x y = refl
one_actual actual says_unconnected (says_net name) x y = absurd (y.2 (sym y.0 ∙ x))
one_actual actual (says_net name) says_unconnected x y = absurd (x.2 (sym x.0 ∙ y))
one_actual actual (says_net name) (says_net other) x y = ap says_net (sym x.0 ∙ y.0)

abbrev pin_of : List ℕ → ℕ → ActualSaid → PinSaid
pin_of port bit actual = record { port = port; bit = bit; actual = actual }

pub one_pin : (word : List ℕ) (p q : PinSaid) → IsPinWord word p → IsPinWord word q → p ≡ q
one_pin word p q x y =
    let c = same_cut 61 word x.formal x.actual y.formal y.actual x.divided y.divided in
    let f = one_formal y.formal p.port q.port p.bit q.bit (subst (λ l. IsFormal l p.port p.bit) c.0 x.is_formal) y.is_formal in
    let a = one_actual y.actual p.actual q.actual (subst (λ l. IsActual l p.actual) c.1 x.is_actual) y.is_actual in
    ap (λ l. pin_of l p.bit p.actual) f.0 ∙ (ap (λ n. pin_of q.port n p.actual) f.1 ∙ ap (pin_of q.port q.bit) a)

-- what the parts of a word don't say, the word doesn't
pub no_bit : (text formal port behind : List ℕ) → text ≡ behind → IsCut formal 91 port behind → ((bit : ℕ) → IsBitBehind text bit → ⊥) →
    (p : List ℕ) (b : ℕ) → IsFormal formal p b → ⊥
no_bit text formal port behind same c none p b (inl x) = not_cut 91 formal port behind x.0 c
no_bit text formal port behind same c none p b (inr x) =
    let d = same_cut 91 formal p x.0 port behind x.1 c in
    none b (subst (λ l. IsBitBehind l b) (d.1 ∙ sym same) x.2)

pub no_equals : (word : List ℕ) → Lacks word 61 → (p : PinSaid) → IsPinWord word p → ⊥
no_equals word lacks p x = not_cut 61 word x.formal x.actual lacks x.divided

pub no_formal : (word formal actual : List ℕ) → IsCut word 61 formal actual → ((port : List ℕ) (bit : ℕ) → IsFormal formal port bit → ⊥) →
    (p : PinSaid) → IsPinWord word p → ⊥
no_formal word formal actual c none p x =
    let d = same_cut 61 word x.formal x.actual formal actual x.divided c in
    none p.port p.bit (subst (λ l. IsFormal l p.port p.bit) d.0 x.is_formal)

pub no_actual : (word formal actual : List ℕ) → IsCut word 61 formal actual → ((a : ActualSaid) → IsActual actual a → ⊥) →
    (p : PinSaid) → IsPinWord word p → ⊥
no_actual word formal actual c none p x =
    let d = same_cut 61 word x.formal x.actual formal actual x.divided c in
    none p.actual (subst (λ l. IsActual l p.actual) d.1 x.is_actual)
