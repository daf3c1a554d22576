-- Pairs of numbers in sets.
use Rattle.std.proofs.Common.{◌≡◌, ◌∷◌, [], ◌++◌, ℕ, Bool, true, false, not, ◌&&◌, ◌||◌, if◌then◌else◌, inl, inr, eqb, List, refl, sym, ◌∙◌, ap, subst, arith}
use Rattle.std.specs.List.{list_any}
use Rattle.std.specs.Bool.{Decides}
use Rattle.std.proofs.lemmas.Bool.{false≢true, or_cases}
use Rattle.indexmap.specs.IndexSet.{insert_key}
use Rattle.vtr_base.specs.Lists.{Has}
use Rattle.blif_pins.specs.Keys.{TakesKey}

abbrev pub same_pair : ℕ × ℕ → ℕ × ℕ → Bool
same_pair a b = eqb a.0 b.0 && eqb a.1 b.1

pair_decides : (a b : ℕ × ℕ) → Decides (same_pair a b) (a ≡ b)
pair_decides (a, b) (x, y) = grind arith

any_has : (keys : List (ℕ × ℕ)) (key : ℕ × ℕ) → list_any (same_pair key) keys ≡ true → Has {X = ℕ × ℕ} keys key
any_has [] key any = absurd (false≢true any)
any_has (k ∷ keys) key any =
    elim (or_cases (same_pair key k) (list_any (same_pair key) keys) any) [ inl here ↦ inl ((pair_decides key k).0 here) | inr later ↦ inr (any_has keys key later) ]

none_has : (keys : List (ℕ × ℕ)) (key : ℕ × ℕ) → list_any (same_pair key) keys ≡ false → Has {X = ℕ × ℕ} keys key → ⊥
none_has [] key none has = has
none_has (k ∷ keys) key none has = by (same_pair key k) (list_any (same_pair key) keys) refl (none_has keys key) none has
  where
    by : (a b : Bool) → same_pair key k ≡ a → (b ≡ false → Has {X = ℕ × ℕ} keys key → ⊥) → (a || b) ≡ false → Has {X = ℕ × ℕ} (k ∷ keys) key → ⊥
    by true b here rest none h = absurd (false≢true (sym none))
    by false b here rest none (inl is) = false≢true (sym here ∙ (pair_decides key k).1 is)
    by false b here rest none (inr later) = rest none later

-- a key that is put into a set
pub takes : (keys new : List (ℕ × ℕ)) (key : ℕ × ℕ) (is_new : Bool) → is_new ≡ not (list_any (same_pair key) keys) → new ≡ insert_key same_pair keys key →
    TakesKey keys key is_new new
takes keys new key is_new told is = by (list_any (same_pair key) keys) refl
  where
    by : (b : Bool) → list_any (same_pair key) keys ≡ b → TakesKey keys key is_new new
    by true any = inr (told ∙ ap not any, any_has keys key any)
    by false none = inl (told ∙ ap not none, none_has keys key none, is ∙ ap (λ (t : Bool). if t then keys else keys ++ key ∷ []) none)
