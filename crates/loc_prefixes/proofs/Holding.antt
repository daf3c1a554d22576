-- The singles that hold, one single more at a time.
use Rattle.std.proofs.Common.{◌≡◌, ◌≤◌, ◌<◌, ◌+◌, ◌⊎◌, inl, inr, ℕ, zero, suc, Bool, true, false, cond, nat_eq, List, [], ◌∷◌, ◌++◌, Option, Some, None, MatchOption, length, take, drop, get_or, slice_get, true≢false, refl, sym, ap, ◌∙◌, subst, arith}
use Rattle.std.specs.Prelude.{◌≤ℤ◌, ◌<ℤ◌, ℤ}
use Rattle.std.proofs.lemmas.Int.{ints}
use Rattle.std.proofs.lemmas.Bool.{and_parts, and_from}
use Rattle.std.proofs.lemmas.Bool.Decides.{nat_tests}
use Rattle.std.proofs.lemmas.List.{length-take, take-append-drop, take_more, take_all}
use Rattle.std.proofs.lemmas.Option.{slice_get_within, get_or_from_slice_get}
use Rattle.list_laws.proofs.Places.{get_front, get_after, get_either}
use Rattle.arch_types.specs.declared.arch.Single.{Single}
use Rattle.loc_prefixes.specs.declared.holders.Spot.{Spot}
use Rattle.loc_prefixes.specs.declared.holders.Holders.{Holders}
use Rattle.loc_prefixes.specs.Holders.{StandsAt, StandsNone, IsHolder, same_spot, held_at, AreHolders, AddsHolder, TakesOver, Yields}

-- places of the grid as keys

nat_same : (m n : ℕ) → nat_eq m n ≡ true → m ≡ n
nat_same m n e = grind (arith, nat_tests)

nat_itself : (m n : ℕ) → m ≡ n → nat_eq m n ≡ true
nat_itself m n e = grind (arith, nat_tests)

abbrev spot : ℕ → ℕ → Spot
spot x y = record { x = x; y = y }

spot_same : (x y v w : ℕ) → same_spot (spot x y) (spot v w) ≡ true → (x ≡ v) × (y ≡ w)
spot_same x y v w e = (let k = and_parts (nat_eq x v) (nat_eq y w) e in (nat_same x v k.0, nat_same y w k.1))

spot_itself : (x y v w : ℕ) → (x ≡ v) × (y ≡ w) → same_spot (spot x y) (spot v w) ≡ true
spot_itself x y v w both = and_from (nat_eq x v) (nat_eq y w) (nat_itself x v both.0) (nat_itself y w both.1)

spot_either : (x y v w : ℕ) → ((x ≡ v) × (y ≡ w)) ⊎ (same_spot (spot x y) (spot v w) ≡ false)
spot_either x y v w = by (same_spot (spot x y) (spot v w)) refl
  where
    by : (b : Bool) → same_spot (spot x y) (spot v w) ≡ b → ((x ≡ v) × (y ≡ w)) ⊎ (same_spot (spot x y) (spot v w) ≡ false)
    by true t = inl (spot_same x y v w t)
    by false f = inr f

pub adds_holder : (f g : Holders) (x y place : ℕ) →
    ((q : Spot) → held_at g q.x q.y ≡ cond (same_spot (spot x y) q) (Some place) (held_at f q.x q.y)) → AddsHolder f x y place g
adds_holder f g x y place updates = record {
  added = updates (spot x y) ∙ ap (λ b. cond b (Some place) (held_at f x y)) (spot_itself x y x y (refl, refl));
  others = λ v w apart. updates (spot v w) ∙ ap (λ b. cond b (Some place) (held_at f v w)) (other v w apart (spot_either x y v w));
}
  where
    other : (v w : ℕ) → ((x ≡ v) × (y ≡ w) → ⊥) → ((x ≡ v) × (y ≡ w)) ⊎ (same_spot (spot x y) (spot v w) ≡ false) → same_spot (spot x y) (spot v w) ≡ false
    other v w apart (inl same) = absurd (apart same)
    other v w apart (inr f) = f

-- priorities

less_or_same : (a b : ℤ) → a <ℤ b → a ≤ℤ b
less_or_same a b less = omega (arith, ints, less)

less_than : (a b c : ℤ) → a ≤ℤ b → b <ℤ c → a <ℤ c
less_than a b c low less = omega (arith, ints, low, less)

same_low : (a : ℤ) → a ≤ℤ a
same_low a = omega (arith, ints)

-- a single behind others

one_of : (s t : Single) (j : ℕ) → slice_get (s ∷ []) j ≡ Some t → (j ≡ 0) × (t ≡ s)
one_of s t zero at = (refl, cc)
one_of s t (suc j) at = absurd (cc)

pushed_at : (front : List Single) (s t : Single) (k : ℕ) → slice_get (front ++ s ∷ []) k ≡ Some t → (slice_get front k ≡ Some t) ⊎ ((k ≡ length front) × (t ≡ s))
pushed_at front s t k at =
    elim (get_either front (s ∷ []) k t at) [
      | inl there ↦ inl there
      | inr h ↦ (let last = one_of s t h.0 h.2 in inr (omega (arith, h.1, last.0), last.1))
    ]

none_on : (front : List Single) (s : Single) (x y : ℕ) → StandsNone front x y → (StandsAt s x y → ⊥) → StandsNone (front ++ s ∷ []) x y
none_on front s x y none apart k t at stands =
    elim (pushed_at front s t k at) [
      | inl there ↦ none k t there stands
      | inr last ↦ apart (subst (λ (z : Single). StandsAt z x y) last.1 stands)
    ]

-- the one that held goes on to hold
holder_on : (front : List Single) (s : Single) (x y place : ℕ) (holder : IsHolder front x y place) → (StandsAt s x y → s.priority ≤ℤ holder.single.priority) →
    IsHolder (front ++ s ∷ []) x y place
holder_on front s x y place holder low = record {
  single = holder.single;
  there = get_front front (s ∷ []) place holder.single holder.there;
  stands = holder.stands;
  greatest = λ k t at stands. elim (pushed_at front s t k at) [
    | inl there ↦ holder.greatest k t there stands
    | inr last ↦ subst (λ (z : Single). z.priority ≤ℤ holder.single.priority) (sym last.1) (low (subst (λ (z : Single). StandsAt z x y) last.1 stands))
  ];
  first = λ k t before at stands. elim (pushed_at front s t k at) [
    | inl there ↦ holder.first k t before there stands
    | inr last ↦ absurd (omega (arith, before, last.0, slice_get_within front place holder.single holder.there))
  ];
}

-- the single holds from now on
holder_new : (front : List Single) (s : Single) (x y : ℕ) → StandsAt s x y →
    ((k : ℕ) (t : Single) → slice_get front k ≡ Some t → StandsAt t x y → t.priority <ℤ s.priority) → IsHolder (front ++ s ∷ []) x y (length front)
holder_new front s x y stands above = record {
  single = s;
  there = get_after front [] s (length front) refl;
  stands = stands;
  greatest = λ k t at here. elim (pushed_at front s t k at) [
    | inl there ↦ less_or_same t.priority s.priority (above k t there here)
    | inr last ↦ subst (λ (z : Single). z.priority ≤ℤ s.priority) (sym last.1) (same_low s.priority)
  ];
  first = λ k t before at here. elim (pushed_at front s t k at) [
    | inl there ↦ above k t there here
    | inr last ↦ absurd (omega (arith, before, last.0))
  ];
}

-- what was kept of the front, where the singles of the whole list are looked up
module _ (singles front behind : List Single) (s : Single) (whole : singles ≡ front ++ behind) where
  in_whole : (place : ℕ) (t : Single) → slice_get front place ≡ Some t → slice_get singles place ≡ Some t
  in_whole place t there = ap (λ l. slice_get l place) whole ∙ get_front front behind place t there

  all_below : (x y : ℕ) (kept : Option ℕ) → MatchOption kept (StandsNone front x y) (IsHolder front x y) → TakesOver singles kept s →
      (k : ℕ) (t : Single) → slice_get front k ≡ Some t → StandsAt t x y → t.priority <ℤ s.priority
  all_below x y None none over k t at stands = absurd (none k t at stands)
  all_below x y (Some place) holder over k t at stands =
      less_than t.priority holder.single.priority s.priority (holder.greatest k t at stands) (over holder.single (in_whole place holder.single holder.there))

  kept_on : (x y : ℕ) (kept : Option ℕ) → MatchOption kept (StandsNone front x y) (IsHolder front x y) → (StandsAt s x y → ⊥) →
      MatchOption kept (StandsNone (front ++ s ∷ []) x y) (IsHolder (front ++ s ∷ []) x y)
  kept_on x y None none apart = none_on front s x y none apart
  kept_on x y (Some place) holder apart = holder_on front s x y place holder (λ stands. absurd (apart stands))

  kept_yet : (x y : ℕ) (kept : Option ℕ) → MatchOption kept (StandsNone front x y) (IsHolder front x y) → Yields singles kept s →
      MatchOption kept (StandsNone (front ++ s ∷ []) x y) (IsHolder (front ++ s ∷ []) x y)
  kept_yet x y None none yields = absurd yields
  kept_yet x y (Some place) holder yields = holder_on front s x y place holder (λ stands. yields holder.single (in_whole place holder.single holder.there))

  takes : (old new : Holders) → AreHolders front old → TakesOver singles (held_at old s.x s.y) s → AddsHolder old s.x s.y (length front) new → AreHolders (front ++ s ∷ []) new
  takes old new are over adds x y = by (spot_either s.x s.y x y)
    where
      by : ((s.x ≡ x) × (s.y ≡ y)) ⊎ (same_spot (spot s.x s.y) (spot x y) ≡ false) →
          MatchOption (held_at new x y) (StandsNone (front ++ s ∷ []) x y) (IsHolder (front ++ s ∷ []) x y)
      by (inl same) =
          let kept : held_at new x y ≡ Some (length front) =
          subst (λ v. held_at new v y ≡ Some (length front)) same.0 (subst (λ w. held_at new s.x w ≡ Some (length front)) same.1 adds.added) in
          let was : held_at old s.x s.y ≡ held_at old x y = ap (λ v. held_at old v s.y) same.0 ∙ ap (λ w. held_at old x w) same.1 in
          rw kept (holder_new front s x y same (all_below x y (held_at old x y) (are x y) (subst (λ (o : Option ℕ). TakesOver singles o s) was over)))
      by (inr f) =
          let apart : (s.x ≡ x) × (s.y ≡ y) → ⊥ = λ both. true≢false (sym (spot_itself s.x s.y x y both) ∙ f) in
          rw (adds.others x y apart) (kept_on x y (held_at old x y) (are x y) apart)

  leaves : (old : Holders) → AreHolders front old → Yields singles (held_at old s.x s.y) s → AreHolders (front ++ s ∷ []) old
  leaves old are yields x y = by (spot_either s.x s.y x y)
    where
      by : ((s.x ≡ x) × (s.y ≡ y)) ⊎ (same_spot (spot s.x s.y) (spot x y) ≡ false) →
          MatchOption (held_at old x y) (StandsNone (front ++ s ∷ []) x y) (IsHolder (front ++ s ∷ []) x y)
      by (inl same) =
          let was : held_at old s.x s.y ≡ held_at old x y = ap (λ v. held_at old v s.y) same.0 ∙ ap (λ w. held_at old x w) same.1 in
          kept_yet x y (held_at old x y) (are x y) (subst (λ (o : Option ℕ). Yields singles o s) was yields)
      by (inr f) = kept_on x y (held_at old x y) (are x y) (λ both. true≢false (sym (spot_itself s.x s.y x y both) ∙ f))

-- the same of so many singles of a list

one_more : (singles : List Single) (n : ℕ) (s : Single) → n < length singles → s ≡ get_or singles n s → take (n + 1) singles ≡ take n singles ++ s ∷ []
one_more singles n s within is = take_more singles n s within ∙ ap (λ (t : Single). take n singles ++ t ∷ []) (sym is)

front_long : (singles : List Single) (n : ℕ) → n < length singles → length (take n singles) ≡ n
front_long singles n within = omega (arith, within, length-take n singles)

pub takes_more : (singles : List Single) (n : ℕ) (s : Single) (old new : Holders) → n < length singles → s ≡ get_or singles n s → AreHolders (take n singles) old →
    TakesOver singles (held_at old s.x s.y) s → AddsHolder old s.x s.y n new → AreHolders (take (n + 1) singles) new
takes_more singles n s old new within is are over adds =
    subst (λ (l : List Single). AreHolders l new) (sym (one_more singles n s within is))
    (takes singles (take n singles) (drop n singles) s (sym (take-append-drop n singles)) old new are over
    (subst (λ k. AddsHolder old s.x s.y k new) (sym (front_long singles n within)) adds))

pub leaves_more : (singles : List Single) (n : ℕ) (s : Single) (old : Holders) → n < length singles → s ≡ get_or singles n s → AreHolders (take n singles) old →
    Yields singles (held_at old s.x s.y) s → AreHolders (take (n + 1) singles) old
leaves_more singles n s old within is are yields =
    subst (λ (l : List Single). AreHolders l old) (sym (one_more singles n s within is))
    (leaves singles (take n singles) (drop n singles) s (sym (take-append-drop n singles)) old are yields)

pub none_yet : (holders : Holders) → ((x y : ℕ) → held_at holders x y ≡ None) → AreHolders [] holders
none_yet holders none x y = rw (none x y) (λ k t at stands. absurd (cc))

pub all_held : (singles : List Single) (n : ℕ) (holders : Holders) → length singles ≤ n → AreHolders (take n singles) holders → AreHolders singles holders
all_held singles n holders end are = subst (λ (l : List Single). AreHolders l holders) (take_all n singles end) are
