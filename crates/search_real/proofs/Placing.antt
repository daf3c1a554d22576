-- Homes, noted leaf by leaf.
use Rattle.std.proofs.Common.{◌≡◌, ◌<◌, ◌≤◌, ◌+◌, inl, inr, ℕ, zero, suc, List, [], ◌∷◌, Some, length, set, refl, sym, ap, ◌∙◌, subst, arith}
use Rattle.std.specs.Prelude.{slice_get, Option}
use Rattle.std.specs.Option.{option_map_or}
use Rattle.std.proofs.lemmas.Bool.Decides.{eqb_tells}
use Rattle.std.proofs.lemmas.Option.{slice_get_within}
use Rattle.pb_expand.specs.declared.number.PbIx.{PbIx}
use Rattle.pb_expand.specs.Graph.{Graph, pb_ix}
use Rattle.task_types.specs.declared.task.Task.{Task}
use Rattle.task_types.specs.declared.decision.Decision.{Decision}
use Rattle.task_types.specs.declared.decision.Occupant.TheVariants.{Atom}
use Rattle.task_types.specs.Decisions.{occupant_in}
use Rattle.search_rules.specs.Settled.{IsHomeOf}
use Rattle.search_free.specs.Held.{AreHeld}
use Rattle.search_real.specs.Placed.{AreAtHome, HasHomesBefore, AreHomes}

set_here : (xs : List PbIx) (i : ℕ) (x : PbIx) → i < length xs → slice_get (set xs i x) i ≡ Some x
set_here [] i x less = absurd (omega (arith, less))
set_here (y ∷ xs) zero x less = refl
set_here (y ∷ xs) (suc i) x less = set_here xs i x (omega (arith, less))

set_other : (xs : List PbIx) (i j : ℕ) (x : PbIx) → (j ≡ i → ⊥) → slice_get (set xs i x) j ≡ slice_get xs j
set_other [] i j x apart = refl
set_other (y ∷ xs) zero zero x apart = absurd (apart refl)
set_other (y ∷ xs) zero (suc j) x apart = refl
set_other (y ∷ xs) (suc i) zero x apart = refl
set_other (y ∷ xs) (suc i) (suc j) x apart = set_other xs i j x (λ same. apart (ap suc same))

set_long : (xs : List PbIx) (i : ℕ) (x : PbIx) → length (set xs i x) ≡ length xs
set_long [] i x = refl
set_long (y ∷ xs) zero x = refl
set_long (y ∷ xs) (suc i) x = ap suc (set_long xs i x)

leaf_same : (a b : ℕ) → Some (pb_ix a) ≡ Some (pb_ix b) → a ≡ b
leaf_same a b both = ap (λ (o : Option PbIx). option_map_or (λ (pb : PbIx). pb.0) o 0) both

module _ (t : Task) (made : List Decision) where
  pub no_homes : (homes : List PbIx) → length homes ≡ length t.atoms → HasHomesBefore t made homes 0
  no_homes homes long = record { long = long; said = λ place leaf less. absurd (omega (arith, less)) }

  -- a loop's last number is past all
  pub all_before : (homes : List PbIx) (n all : ℕ) → HasHomesBefore t made homes n → all ≤ n → HasHomesBefore t made homes all
  all_before homes n all has past = record { long = has.long; said = λ place leaf less home. has.said place leaf (omega (arith, less, past)) home }

  pub home_kept : (homes : List PbIx) (n : ℕ) → HasHomesBefore t made homes n → ((place : ℕ) → IsHomeOf made place n → ⊥) → HasHomesBefore t made homes (n + 1)
  home_kept homes n has none = record {
    long = has.long;
    said = λ place leaf less home. elim (eqb_tells leaf n) [
      | inl same ↦ absurd (none place (subst (λ l. IsHomeOf made place l) same.1 home))
      | inr apart ↦ has.said place leaf (omega (arith, less, apart.1)) home
    ];
  }

  pub home_put : (g : Graph) (homes : List PbIx) (n place : ℕ) → AreHeld g t made → HasHomesBefore t made homes n → place < length t.atoms → IsHomeOf made place n → HasHomesBefore t made (set homes place (pb_ix n)) (n + 1)
  home_put g homes n place held has inside is = record {
    long = set_long homes place (pb_ix n) ∙ has.long;
    said = said;
  }
    where
      by : (other leaf : ℕ) → leaf < n → IsHomeOf made other leaf → slice_get (set homes place (pb_ix n)) other ≡ Some (pb_ix leaf)
      by other leaf less home =
          set_other homes place other (pb_ix n)
          (λ same. (let leaf_is : leaf ≡ n = held.one_home place leaf n (subst (λ k. IsHomeOf made k leaf) same home) is in omega (arith, less, leaf_is)))
          ∙ has.said other leaf less home

      said : (other leaf : ℕ) → leaf < n + 1 → IsHomeOf made other leaf → slice_get (set homes place (pb_ix n)) other ≡ Some (pb_ix leaf)
      said other leaf less home = elim (eqb_tells leaf n) [
        | inl same ↦ (
            let both : Some (Atom place) ≡ Some (Atom other) = sym is ∙ ap (λ l. occupant_in made l) (sym same.1) ∙ home in
            let place_is : place ≡ other = cc both in
            ap (λ k. slice_get (set homes place (pb_ix n)) k) (sym place_is) ∙ set_here homes place (pb_ix n) (omega (arith, inside, has.long)) ∙ ap (λ l. Some (pb_ix l)) (sym same.1))
        | inr apart ↦ by other leaf (omega (arith, less, apart.1)) home
      ]

  pub homes_are : (g : Graph) (homes : List PbIx) → AreHeld g t made → AreAtHome t made → HasHomesBefore t made homes (length g.instances) → AreHomes t made homes
  homes_are g homes held at_home has = record {
    long = has.long;
    exact = λ place leaf. (forth place leaf, λ home. has.said place leaf (inside place leaf home) home);
  }
    where
      inside : (place leaf : ℕ) → IsHomeOf made place leaf → leaf < length g.instances
      inside place leaf home = (held.leaves leaf (Atom place) home).live.inside

      forth : (place leaf : ℕ) → slice_get homes place ≡ Some (pb_ix leaf) → IsHomeOf made place leaf
      forth place leaf is =
          let home = at_home place (omega (arith, slice_get_within homes place (pb_ix leaf) is, has.long)) in
          let both : Some (pb_ix leaf) ≡ Some (pb_ix home.0) = sym is ∙ has.said place home.0 (inside place home.0 home.1) home.1 in
          let same : home.0 ≡ leaf = sym (leaf_same leaf home.0 both) in
          subst (λ l. IsHomeOf made place l) same home.1
