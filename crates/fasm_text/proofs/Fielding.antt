-- A field is read in one way, and what isn't read is no field.
use Rattle.std.proofs.Common.{◌≡◌, ◌<◌, ◌⊎◌, inl, inr, ℕ, List, [], ◌∷◌, ◌++◌, length, sym, ap, ◌∙◌, subst, arith}
use Rattle.std.proofs.lemmas.List.{same_from_push}
use Rattle.vtr_base.specs.Spans.{Lacks, IsCut}
use Rattle.fasm_text.specs.Names.{IsFeatureName}
use Rattle.fasm_text.specs.Fields.{IsBitNumber, IsRange, IsBracketed, IsField}
use Rattle.fasm_text.proofs.Cuts.{not_cut, same_cut}

one_bit : (text : List ℕ) (m n : ℕ) → IsBitNumber text m → IsBitNumber text n → m ≡ n
one_bit text m n a b = a.value ∙ sym b.value

pub no_bit : (inside : List ℕ) → Lacks inside 58 → ((n : ℕ) → IsBitNumber inside n → ⊥) → (lo hi : ℕ) → IsRange inside lo hi → ⊥
no_bit inside lacks none lo hi (inl one) = none lo one.1
no_bit inside lacks none lo hi (inr two) = not_cut 58 inside two.0 two.1 lacks two.2

pub no_high : (inside high low : List ℕ) → IsCut inside 58 high low → ((n : ℕ) → IsBitNumber high n → ⊥) → (lo hi : ℕ) → IsRange inside lo hi → ⊥
no_high inside high low cut none lo hi (inl one) = not_cut 58 inside high low one.0 cut
no_high inside high low cut none lo hi (inr two) =
    none hi (subst (λ t. IsBitNumber t hi) (same_cut 58 inside two.0 two.1 high low two.2 cut).0 two.3)

pub no_low : (inside high low : List ℕ) → IsCut inside 58 high low → ((n : ℕ) → IsBitNumber low n → ⊥) → (lo hi : ℕ) → IsRange inside lo hi → ⊥
no_low inside high low cut none lo hi (inl one) = not_cut 58 inside high low one.0 cut
no_low inside high low cut none lo hi (inr two) =
    none lo (subst (λ t. IsBitNumber t lo) (same_cut 58 inside two.0 two.1 high low two.2 cut).1 two.4)

pub one_range : (inside : List ℕ) (lo hi bottom top : ℕ) → IsRange inside lo hi → IsRange inside bottom top → (lo ≡ bottom) × (hi ≡ top)
one_range inside lo hi bottom top (inl a) (inl b) =
    let same = one_bit inside lo bottom a.1 b.1 in
    (same, a.2 ∙ same ∙ sym b.2)
one_range inside lo hi bottom top (inl a) (inr b) = absurd (not_cut 58 inside b.0 b.1 a.0 b.2)
one_range inside lo hi bottom top (inr a) (inl b) = absurd (not_cut 58 inside a.0 a.1 b.0 a.2)
one_range inside lo hi bottom top (inr a) (inr b) =
    let cut = same_cut 58 inside a.0 a.1 b.0 b.1 a.2 b.2 in
    (one_bit b.1 lo bottom (subst (λ t. IsBitNumber t lo) cut.1 a.4) b.4, one_bit b.0 hi top (subst (λ t. IsBitNumber t hi) cut.0 a.3) b.3)

pub turned_range : (inside high low : List ℕ) (top bottom : ℕ) → IsCut inside 58 high low → IsBitNumber high top → IsBitNumber low bottom → top < bottom →
    (lo hi : ℕ) → IsRange inside lo hi → ⊥
turned_range inside high low top bottom cut is_top is_bottom turned lo hi (inl one) = not_cut 58 inside high low one.0 cut
turned_range inside high low top bottom cut is_top is_bottom turned lo hi (inr two) =
    let same = same_cut 58 inside two.0 two.1 high low two.2 cut in
    let his = one_bit high hi top (subst (λ t. IsBitNumber t hi) same.0 two.3) is_top in
    let los = one_bit low lo bottom (subst (λ t. IsBitNumber t lo) same.1 two.4) is_bottom in
    omega (arith, his, los, two.5, turned)

pub not_bracketed : (behind inside : List ℕ) → behind ≡ inside ++ 93 ∷ [] → ((lo hi : ℕ) → IsRange inside lo hi → ⊥) → (lo hi : ℕ) → IsBracketed behind lo hi → ⊥
not_bracketed behind inside is none lo hi b =
    none lo hi (subst (λ t. IsRange t lo hi) (same_from_push b.0 inside 93 93 (sym b.1 ∙ is)).0 b.2)

one_bracketed : (behind : List ℕ) (lo hi bottom top : ℕ) → IsBracketed behind lo hi → IsBracketed behind bottom top → (lo ≡ bottom) × (hi ≡ top)
one_bracketed behind lo hi bottom top a b =
    one_range b.0 lo hi bottom top (subst (λ t. IsRange t lo hi) (same_from_push a.0 b.0 93 93 (sym a.1 ∙ b.1)).0 a.2) b.2

pub not_plain : (text : List ℕ) → Lacks text 91 → (IsFeatureName text → ⊥) → (name : List ℕ) (lo hi : ℕ) → IsField text name lo hi → ⊥
not_plain text lacks none name lo hi f = by f.1
  where
    by : ((Lacks text 91 × (name ≡ text) × (lo ≡ 0) × (hi ≡ 0)) ⊎ ((behind : List ℕ) × IsCut text 91 name behind × IsBracketed behind lo hi)) → ⊥
    by (inl one) = none (subst IsFeatureName one.1 f.0)
    by (inr two) = not_cut 91 text name two.0 lacks two.1

pub not_named : (text front rest : List ℕ) → IsCut text 91 front rest → (IsFeatureName front → ⊥) → (name : List ℕ) (lo hi : ℕ) → IsField text name lo hi → ⊥
not_named text front rest cut none name lo hi f = by f.1
  where
    by : ((Lacks text 91 × (name ≡ text) × (lo ≡ 0) × (hi ≡ 0)) ⊎ ((behind : List ℕ) × IsCut text 91 name behind × IsBracketed behind lo hi)) → ⊥
    by (inl one) = not_cut 91 text front rest one.0 cut
    by (inr two) = none (subst IsFeatureName (same_cut 91 text name two.0 front rest two.1 cut).0 f.0)

pub not_indexed : (text front rest : List ℕ) → IsCut text 91 front rest → ((lo hi : ℕ) → IsBracketed rest lo hi → ⊥) → (name : List ℕ) (lo hi : ℕ) → IsField text name lo hi → ⊥
not_indexed text front rest cut none name lo hi f = by f.1
  where
    by : ((Lacks text 91 × (name ≡ text) × (lo ≡ 0) × (hi ≡ 0)) ⊎ ((behind : List ℕ) × IsCut text 91 name behind × IsBracketed behind lo hi)) → ⊥
    by (inl one) = not_cut 91 text front rest one.0 cut
    by (inr two) = none lo hi (subst (λ t. IsBracketed t lo hi) (same_cut 91 text name two.0 front rest two.1 cut).1 two.2)

-- a text is one field
pub one_field : (text n m : List ℕ) (lo hi bottom top : ℕ) → IsField text n lo hi → IsField text m bottom top → (n ≡ m) × (lo ≡ bottom) × (hi ≡ top)
one_field text n m lo hi bottom top f g = by f.1 g.1
  where
    by : ((Lacks text 91 × (n ≡ text) × (lo ≡ 0) × (hi ≡ 0)) ⊎ ((behind : List ℕ) × IsCut text 91 n behind × IsBracketed behind lo hi)) →
        ((Lacks text 91 × (m ≡ text) × (bottom ≡ 0) × (top ≡ 0)) ⊎ ((behind : List ℕ) × IsCut text 91 m behind × IsBracketed behind bottom top)) →
        (n ≡ m) × (lo ≡ bottom) × (hi ≡ top)
    by (inl a) (inl b) = (a.1 ∙ sym b.1, a.2 ∙ sym b.2, a.3 ∙ sym b.3)
    by (inl a) (inr b) = absurd (not_cut 91 text m b.0 a.0 b.1)
    by (inr a) (inl b) = absurd (not_cut 91 text n a.0 b.0 a.1)
    by (inr a) (inr b) =
        let cut = same_cut 91 text n a.0 m b.0 a.1 b.1 in
        let r = one_bracketed b.0 lo hi bottom top (subst (λ t. IsBracketed t lo hi) cut.1 a.2) b.2 in
        (cut.0, r.0, r.1)

pub not_closed : (behind inside : List ℕ) (last : ℕ) → behind ≡ inside ++ last ∷ [] → (last ≡ 93 → ⊥) → (lo hi : ℕ) → IsBracketed behind lo hi → ⊥
not_closed behind inside last is other lo hi b = other (same_from_push inside b.0 last 93 (sym is ∙ b.1)).1

no_end : (front : List ℕ) (b : ℕ) → [] ≡ front ++ b ∷ [] → ⊥
no_end [] b e = cc
no_end (x ∷ front) b e = cc

pub none_behind : (behind : List ℕ) → length behind ≡ 0 → (lo hi : ℕ) → IsBracketed behind lo hi → ⊥
none_behind [] none lo hi b = no_end b.0 93 b.1
none_behind (x ∷ behind) none lo hi b = omega (arith, none)

pub is_bracketed : (behind inside : List ℕ) (last : ℕ) → behind ≡ inside ++ last ∷ [] → last ≡ 93 → (lo hi : ℕ) → IsRange inside lo hi → IsBracketed behind lo hi
is_bracketed behind inside last is closed lo hi range = (inside, is ∙ ap (λ b. inside ++ b ∷ []) closed, range)
