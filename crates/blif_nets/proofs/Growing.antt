-- Lists grow in one way.
use Rattle.std.proofs.Common.{◌≡◌, ◌<◌, ◌≤◌, ◌+◌, inl, inr, ℕ, Bool, true, false, not, ◌||◌, if◌then◌else◌, MatchBool, nat_eq, List, [], ◌∷◌, ◌++◌, length, map, drop, get_or, refl, sym, ap, ◌∙◌, subst, arith}
use Rattle.std.specs.List.{list_any}
use Rattle.std.proofs.lemmas.Bool.{false≢true, or_cases}
use Rattle.std.proofs.lemmas.Bool.Decides.{nat_tests}
use Rattle.std.proofs.lemmas.List.{drop_more, drop_all, map-id}
use Rattle.indexmap.specs.IndexSet.{insert_key}
use Rattle.vtr_base.specs.Lists.{Has}
use Rattle.blif_nets.specs.Growth.{AddsAll, FindsKnown, HasKnown}

pub one_growth : {X : Type 0} (old xs new other : List X) → AddsAll old xs new → AddsAll old xs other → new ≡ other
one_growth old [] new other a b = a ∙ sym b
one_growth old (x ∷ xs) new other a b = one_growth (old ++ x ∷ []) xs new other a.1 b.1

pub one_known : {X : Type 0} (old xs : List X) (x y : X) → FindsKnown old xs x → FindsKnown old xs y → x ≡ y
one_known old [] x y a b = absurd a
one_known old (z ∷ zs) x y (inl a) (inl b) = a.1 ∙ sym b.1
one_known old (z ∷ zs) x y (inl a) (inr b) = absurd (b.0 a.0)
one_known old (z ∷ zs) x y (inr a) (inl b) = absurd (a.0 b.0)
one_known old (z ∷ zs) x y (inr a) (inr b) = one_known (old ++ z ∷ []) zs x y a.1 b.1

pub never_both : {X : Type 0} (old xs new : List X) (x : X) → AddsAll old xs new → FindsKnown old xs x → ⊥
never_both old [] new x a f = f
never_both old (z ∷ zs) new x a (inl f) = a.0 f.0
never_both old (z ∷ zs) new x a (inr f) = never_both (old ++ z ∷ []) zs new x a.1 f.1

nat_same : (m n : ℕ) → nat_eq m n ≡ true → m ≡ n
nat_same m n e = grind (arith, nat_tests)

nat_itself : (m n : ℕ) → m ≡ n → nat_eq m n ≡ true
nat_itself m n e = grind (arith, nat_tests)

any_has : (keys : List ℕ) (key : ℕ) → list_any (nat_eq key) keys ≡ true → Has keys key
any_has [] key any = absurd (false≢true any)
any_has (k ∷ keys) key any =
    elim (or_cases (nat_eq key k) (list_any (nat_eq key) keys) any) [ inl here ↦ inl (nat_same key k here) | inr later ↦ inr (any_has keys key later) ]

none_has : (keys : List ℕ) (key : ℕ) → list_any (nat_eq key) keys ≡ false → Has keys key → ⊥
none_has [] key none has = has
none_has (k ∷ keys) key none has = by (nat_eq key k) (list_any (nat_eq key) keys) refl (none_has keys key) none has
  where
    by : (a b : Bool) → nat_eq key k ≡ a → (b ≡ false → Has keys key → ⊥) → (a || b) ≡ false → Has (k ∷ keys) key → ⊥
    by true b here rest none h = absurd (false≢true (sym none))
    by false b here rest none (inl is) = false≢true (sym here ∙ nat_itself key k is)
    by false b here rest none (inr later) = rest none later

abbrev pub Takes : {X : Type 0} → List X → X → Bool → List X → Type 0
Takes old x is_new new = MatchBool is_new ((Has old x → ⊥) × (new ≡ old ++ x ∷ [])) (Has old x)

-- a number that is put into a set
pub put : (keys new : List ℕ) (key : ℕ) (is_new : Bool) → is_new ≡ not (list_any (nat_eq key) keys) → new ≡ insert_key nat_eq keys key → Takes keys key is_new new
put keys new key is_new told is = by (list_any (nat_eq key) keys) refl
  where
    by : (b : Bool) → list_any (nat_eq key) keys ≡ b → Takes keys key is_new new
    by true any = subst (λ t. Takes keys key t new) (sym (told ∙ ap not any)) (any_has keys key any)
    by false none =
        subst (λ t. Takes keys key t new) (sym (told ∙ ap not none))
        (none_has keys key none, is ∙ ap (λ (t : Bool). if t then keys else keys ++ key ∷ []) none)

-- what is left of the elements is added, or has the first known one, as all of them
pub record Grows {X : Type 0} (first xs old rest : List X) : Type 0 where
  pub adds : (new : List X) → AddsAll old rest new → AddsAll first xs new
  pub finds : (x : X) → FindsKnown old rest x → FindsKnown first xs x

pub grows_all : {X : Type 0} (first xs : List X) → Grows first xs first xs
grows_all first xs = record { adds = λ new a. a; finds = λ x f. f }

pub grows_more : {X : Type 0} (first xs old new : List X) (k : ℕ) (d : X) (is_new : Bool) → k < length xs → is_new ≡ true → Takes old (get_or xs k d) is_new new → Grows first xs old (drop k xs) →
    Grows first xs new (drop (k + 1) xs)
grows_more first xs old new k d is_new within on takes so_far =
    let took = subst (λ t. Takes old (get_or xs k d) t new) on takes in
    let cut = drop_more xs k d within in
    record {
      adds = λ all a. so_far.adds all (subst (λ rest. AddsAll old rest all) (sym cut) (took.0, subst (λ l. AddsAll l (drop (k + 1) xs) all) took.1 a));
      finds = λ x f. so_far.finds x (subst (λ rest. FindsKnown old rest x) (sym cut) (inr (took.0, subst (λ l. FindsKnown l (drop (k + 1) xs) x) took.1 f)));
    }

pub grows_known : {X : Type 0} (first xs old new : List X) (k : ℕ) (d : X) (is_new : Bool) → k < length xs → is_new ≡ false → Takes old (get_or xs k d) is_new new → Grows first xs old (drop k xs) →
    FindsKnown first xs (get_or xs k d)
grows_known first xs old new k d is_new within off takes so_far =
    let known = subst (λ t. Takes old (get_or xs k d) t new) off takes in
    so_far.finds (get_or xs k d) (subst (λ rest. FindsKnown old rest (get_or xs k d)) (sym (drop_more xs k d within)) (inl (known, refl)))

pub grows_end : {X : Type 0} (first xs old : List X) (k : ℕ) → length xs ≤ k → Grows first xs old (drop k xs) → AddsAll first xs old
grows_end first xs old k whole so_far = so_far.adds old (subst (λ rest. AddsAll old rest old) (sym (drop_all k xs whole)) refl)

-- the same for elements that are read from others

pub reads_more : {X Y : Type 0} (f : X → Y) (first ys : List Y) (xs : List X) (old new : List Y) (k : ℕ) (d : X) (y : Y) (is_new : Bool) → k < length xs → y ≡ f (get_or xs k d) → is_new ≡ true →
    Takes old y is_new new → Grows first ys old (map f (drop k xs)) → Grows first ys new (map f (drop (k + 1) xs))
reads_more f first ys xs old new k d y is_new within is on takes so_far =
    let took = subst (λ t. Takes old y t new) on takes in
    let cut = ap (map f) (drop_more xs k d within) ∙ ap (λ z. z ∷ map f (drop (k + 1) xs)) (sym is) in
    record {
      adds = λ all a. so_far.adds all (subst (λ rest. AddsAll old rest all) (sym cut) (took.0, subst (λ l. AddsAll l (map f (drop (k + 1) xs)) all) took.1 a));
      finds = λ x g. so_far.finds x (subst (λ rest. FindsKnown old rest x) (sym cut) (inr (took.0, subst (λ l. FindsKnown l (map f (drop (k + 1) xs)) x) took.1 g)));
    }

pub reads_known : {X Y : Type 0} (f : X → Y) (first ys : List Y) (xs : List X) (old new : List Y) (k : ℕ) (d : X) (y : Y) (is_new : Bool) → k < length xs → y ≡ f (get_or xs k d) → is_new ≡ false →
    Takes old y is_new new → Grows first ys old (map f (drop k xs)) → HasKnown first ys
reads_known f first ys xs old new k d y is_new within is off takes so_far =
    let known = subst (λ t. Takes old y t new) off takes in
    let cut = ap (map f) (drop_more xs k d within) ∙ ap (λ z. z ∷ map f (drop (k + 1) xs)) (sym is) in
    (y, so_far.finds y (subst (λ rest. FindsKnown old rest y) (sym cut) (inl (known, refl))))

pub reads_end : {X Y : Type 0} (f : X → Y) (first ys : List Y) (xs : List X) (old : List Y) (k : ℕ) → length xs ≤ k → Grows first ys old (map f (drop k xs)) → AddsAll first ys old
reads_end f first ys xs old k whole so_far = so_far.adds old (subst (λ rest. AddsAll old (map f rest) old) (sym (drop_all k xs whole)) refl)

pub grows_same : (first xs : List (List ℕ)) → Grows first xs first (map (λ x. x) xs)
grows_same first xs = subst (Grows first xs first) (sym (map-id xs)) (grows_all first xs)
