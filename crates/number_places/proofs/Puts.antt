-- A number that is put into a set, or looked up in it.
use Rattle.std.proofs.Common.{◌≡◌, ℕ, Bool, true, false, not, ◌||◌, if◌then◌else◌, MatchBool, MatchOption, nat_eq, List, [], ◌∷◌, ◌++◌, Option, Some, None, slice_get, position, refl, sym, ap, ◌∙◌, subst, inl, inr, arith}
use Rattle.std.specs.List.{list_any, IsDistinct, AllByRecursion}
use Rattle.std.proofs.lemmas.Bool.{false≢true, or_cases}
use Rattle.std.proofs.lemmas.Bool.Decides.{nat_tests}
use Rattle.std.proofs.lemmas.List.{map-id}
use Rattle.std.proofs.lemmas.Map.Keys.{IsDistinct-head, IsDistinct-tail}
use Rattle.indexmap.specs.IndexSet.{insert_key}
use Rattle.vtr_base.specs.Lists.{Has}
use Rattle.list_laws.specs.Orders.{Once}
use Rattle.list_laws.proofs.Members.{at_has}
use Rattle.list_laws.proofs.Searches.{position_says}

nat_same : (m n : ℕ) → nat_eq m n ≡ true → m ≡ n
nat_same m n e = grind (arith, nat_tests)

nat_itself : (m n : ℕ) → m ≡ n → nat_eq m n ≡ true
nat_itself m n e = grind (arith, nat_tests)

any_has : (keys : List ℕ) (key : ℕ) → list_any (nat_eq key) keys ≡ true → Has keys key
any_has [] key any = absurd (false≢true any)
any_has (k ∷ keys) key any =
    elim (or_cases (nat_eq key k) (list_any (nat_eq key) keys) any) [ inl here ↦ inl (nat_same key k here) | inr later ↦ inr (any_has keys key later) ]

none_has : (keys : List ℕ) (key : ℕ) → list_any (nat_eq key) keys ≡ false → Has keys key → ⊥
none_has [] key none has = has
none_has (k ∷ keys) key none has = by (nat_eq key k) (list_any (nat_eq key) keys) refl (none_has keys key) none has
  where
    by : (a b : Bool) → nat_eq key k ≡ a → (b ≡ false → Has keys key → ⊥) → (a || b) ≡ false → Has (k ∷ keys) key → ⊥
    by true b here rest none h = absurd (false≢true (sym none))
    by false b here rest none (inl is) = false≢true (sym here ∙ nat_itself key k is)
    by false b here rest none (inr later) = rest none later

abbrev pub Adds : List ℕ → ℕ → Bool → List ℕ → Type 0
Adds old x is_new new = MatchBool is_new ((Has old x → ⊥) × (new ≡ old ++ x ∷ [])) (Has old x × (new ≡ old))

pub put : (keys new : List ℕ) (key : ℕ) (is_new : Bool) → is_new ≡ not (list_any (nat_eq key) keys) → new ≡ insert_key nat_eq keys key → Adds keys key is_new new
put keys new key is_new told is = by (list_any (nat_eq key) keys) refl
  where
    by : (b : Bool) → list_any (nat_eq key) keys ≡ b → Adds keys key is_new new
    by true any =
        subst (λ t. Adds keys key t new) (sym (told ∙ ap not any))
        (any_has keys key any, is ∙ ap (λ (t : Bool). if t then keys else keys ++ key ∷ []) any)
    by false none =
        subst (λ t. Adds keys key t new) (sym (told ∙ ap not none))
        (none_has keys key none, is ∙ ap (λ (t : Bool). if t then keys else keys ++ key ∷ []) none)

pub found : (keys : List ℕ) (key : ℕ) (r : Option ℕ) → r ≡ position (nat_eq key) keys →
    MatchOption r (Has keys key → ⊥) (λ place. slice_get keys place ≡ Some key)
found keys key r e = by r (subst (λ ks. MatchOption r ((n : ℕ) → slice_get ks n ≡ Some key → ⊥) (λ n. slice_get ks n ≡ Some key)) (map-id keys)
    (position_says (nat_eq key) (λ k. k) key (λ k t. sym (nat_same key k t)) (λ k is. nat_itself key k (sym is)) keys r e))
  where
    by : (r : Option ℕ) → MatchOption r ((n : ℕ) → slice_get keys n ≡ Some key → ⊥) (λ n. slice_get keys n ≡ Some key) →
        MatchOption r (Has keys key → ⊥) (λ place. slice_get keys place ≡ Some key)
    by None none = λ has. (let k = at_has keys key has in none k.0 k.1)
    by (Some place) at = at

all_has : {X : Type 0} (P : X → Type 0) (xs : List X) → AllByRecursion P xs → (x : X) → Has xs x → P x
all_has P [] all x has = absurd has
all_has P (y ∷ ys) all x (inl is) = subst P (sym is) all.0
all_has P (y ∷ ys) all x (inr has) = all_has P ys all.1 x has

pub keys_once : (keys : List ℕ) → IsDistinct nat_eq keys → Once keys
keys_once [] apart = tt
keys_once (k ∷ keys) apart = (
  λ has. (let differs = all_has (λ y. nat_eq k y ≡ false) keys (IsDistinct-head nat_eq k keys apart) k has in
      false≢true (sym differs ∙ nat_itself k k refl)),
  keys_once keys (IsDistinct-tail nat_eq k keys apart),
)
