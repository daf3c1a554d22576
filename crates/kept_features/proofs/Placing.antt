-- Places of features that are kept, one more.
use Rattle.std.proofs.Common.{◌≡◌, ◌<◌, ◌+◌, ℕ, zero, suc, List, [], ◌∷◌, ◌++◌, Some, length, get_or, slice_get, refl, sym, ap, ◌∙◌, subst, arith}
use Rattle.std.proofs.lemmas.Option.{slice_get_read}
use Rattle.meta_lines.specs.declared.types.Feature.{Feature}
use Rattle.meta_lines.specs.Each.{Each}
use Rattle.list_laws.proofs.Places.{get_front, get_behind}
use Rattle.kept_features.specs.declared.firsts.BitKey.{BitKey}
use Rattle.kept_features.specs.Firsts.{KeepsFirsts}
use Rattle.kept_features.specs.Keys.{HasKey, AreKeys}
use Rattle.kept_features.specs.Places.{StandAt, KeepsAt, AddsAt}
use Rattle.kept_features.proofs.Keeping.{keeps_still, keeps_more}

stand_on : (all : List Feature) (places : List ℕ) (fs : List Feature) (place : ℕ) (f : Feature) → StandAt all places fs → slice_get all place ≡ Some f → StandAt all (places ++ place ∷ []) (fs ++ f ∷ [])
stand_on all [] fs place f stand at = subst (λ (l : List Feature). StandAt all (place ∷ []) (l ++ f ∷ [])) (sym stand) (at, refl)
stand_on all (p ∷ places) [] place f stand at = absurd stand
stand_on all (p ∷ places) (g ∷ fs) place f stand at = (stand.0, stand_on all places fs place f stand.1 at)

pub keeps_none : (all : List Feature) → KeepsAt all [] []
keeps_none all = record { kept = []; stand = refl; keeps = refl }

pub still_at : (all before : List Feature) (keys : List BitKey) (f : Feature) (place : ℕ) (places : List ℕ) → HasKey keys f.name f.bit → AreKeys before keys → AddsAt all before f place places places
still_at all before keys f place places had are at keeps = record { kept = keeps.kept; stand = keeps.stand; keeps = keeps_still before keeps.kept keys f had are keeps.keeps }

pub more_at : (all before : List Feature) (keys : List BitKey) (f : Feature) (place : ℕ) (places : List ℕ) → (HasKey keys f.name f.bit → ⊥) → AreKeys before keys →
    AddsAt all before f place places (places ++ place ∷ [])
more_at all before keys f place places none are at keeps = record {
  kept = keeps.kept ++ f ∷ [];
  stand = stand_on all places keeps.kept place f keeps.stand at;
  keeps = keeps_more before keeps.kept keys f none are keeps.keeps;
}

pub in_first : (first second : List Feature) (n : ℕ) (f : Feature) → n < length first → f ≡ get_or first n f → slice_get (first ++ second) n ≡ Some f
in_first first second n f within is = get_front first second n f (slice_get_read first (length first) n f refl within is)

pub in_second : (first second : List Feature) (n : ℕ) (f : Feature) → n < length second → f ≡ get_or second n f → slice_get (first ++ second) (length first + n) ≡ Some f
in_second first second n f within is = get_behind first second n f (slice_get_read second (length second) n f refl within is)
