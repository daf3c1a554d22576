-- What a map has for a key.
use Rattle.std.proofs.Common.{◌≡◌, nat_eq, Bool, true, false, cond, List, [], ◌∷◌, ◌++◌, Option, Some, None, MatchOption, refl, sym, ap, ◌∙◌, inl, inr, Bor, arith}
use Rattle.std.specs.Map.{lookup}
use Rattle.std.specs.Option.{option_copied}
use Rattle.std.proofs.lemmas.Bool.{false≢true}
use Rattle.std.proofs.lemmas.Bool.Decides.{nat_tests}
use Rattle.indexmap.specs.IndexMap.{IndexMap, get, insert_entry}
use Rattle.indexmap.proofs.CallerLemmas.{insert_entry-new}
use Rattle.vtr_base.specs.Lists.{Has}
use Rattle.rr_places.specs.Keyed.{IsEquality}

pub numbers_equal : IsEquality nat_eq
numbers_equal x y = (λ (e : nat_eq x y ≡ true). grind (arith, nat_tests), λ (e : x ≡ y). grind (arith, nat_tests))

module _ {K V : Type 0} (eq : K → K → Bool) (same : IsEquality eq) where
  there : (es : List (K × V)) (k : K) (v : V) → lookup (eq k) es ≡ Some v → Has es (k, v)
  there [] k v e = cc
  there (x ∷ xs) k v e = by (eq k x.0) refl (there xs k v)
    where
      by : (b : Bool) → eq k x.0 ≡ b → (lookup (eq k) xs ≡ Some v → Has xs (k, v)) → Has (x ∷ xs) (k, v)
      by true t more =
          let key = (same k x.0).0 t in
          let at : Some x.1 ≡ Some v = sym (ap (λ (b : Bool). cond b (Some x.1) (lookup (eq k) xs)) t) ∙ e in
          let value : x.1 ≡ v = cc in
          inl (ap (λ (n : K). (n, v)) key ∙ ap (λ (q : V). (x.0, q)) (sym value))
      by false f more = inr (more (sym (ap (λ (b : Bool). cond b (Some x.1) (lookup (eq k) xs)) f) ∙ e))

  absent : (es : List (K × V)) (k : K) (v : V) → lookup (eq k) es ≡ None → Has es (k, v) → ⊥
  absent [] k v e has = has
  absent (x ∷ xs) k v e has = by (eq k x.0) refl has (absent xs k v)
    where
      by : (b : Bool) → eq k x.0 ≡ b → Has (x ∷ xs) (k, v) → (lookup (eq k) xs ≡ None → Has xs (k, v) → ⊥) → ⊥
      by true t had more =
          let at : Some x.1 ≡ None = sym (ap (λ (b : Bool). cond b (Some x.1) (lookup (eq k) xs)) t) ∙ e in cc
      by false f (inl is) more =
          let key : k ≡ x.0 = ap (λ (p : K × V). p.0) is in
          false≢true (sym f ∙ (same k x.0).1 key)
      by false f (inr had) more = more (sym (ap (λ (b : Bool). cond b (Some x.1) (lookup (eq k) xs)) f) ∙ e) had

  pub found : (es : List (K × V)) (k : K) (r : Option (Bor V)) → option_copied r ≡ lookup (eq k) es →
      MatchOption r ((v : V) → Has es (k, v) → ⊥) (λ v. Has es (k, v.now))
  found es k None e = λ v. absent es k v (sym e)
  found es k (Some v) e = there es k v.now (sym e)

  pub added : {S : Type 0} (m : IndexMap K V S) (new : List (K × V)) (k : K) (v : V) → ((w : V) → Has m.entries (k, w) → ⊥) →
      new ≡ insert_entry eq m.entries k v → new ≡ m.entries ++ (k, v) ∷ []
  added m new k v fresh e = e ∙ insert_entry-new eq m k v (by (get eq m k) refl)
    where
      by : (r : Option V) → get eq m k ≡ r → get eq m k ≡ None
      by None e = e
      by (Some w) e = absurd (fresh w (there m.entries k w e))
