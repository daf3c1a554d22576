-- Parameters that are put.
use Rattle.std.proofs.Common.{◌≡◌, ◌<◌, ◌≤◌, inl, inr, ℕ, zero, suc, List, [], ◌∷◌, ◌++◌, Some, length, map, slice_get, slice_set, refl, sym, ap, ◌∙◌, subst, arith}
use Rattle.std.proofs.lemmas.List.{map-append, length-map}
use Rattle.std.proofs.lemmas.Option.{slice_get_within}
use Rattle.vtr_base.specs.Lists.{Has, IsFirstPlace}
use Rattle.list_laws.proofs.Members.{has_at}
use Rattle.list_laws.proofs.Places.{get_either}
use Rattle.names.specs.Naming.{AddsName}
use Rattle.blif_nets.specs.Mentions.{IsNumbered}
use Rattle.blif_items.specs.declared.params.Params.{Params}
use Rattle.blif_items.specs.Params.{names_of, PutsParam}
use Rattle.blif_items.specs.Seen.{HoldsParams, IsPut}

same_names : (ps : List (List ℕ × List ℕ)) (k : ℕ) (name value : List ℕ) → slice_get (names_of ps) k ≡ Some name → names_of (slice_set ps k (name, value)) ≡ names_of ps
same_names [] k name value at = refl
same_names (p ∷ ps) zero name value at = (let e : Some p.0 ≡ Some name = at in ap (λ (n : List ℕ). n ∷ names_of ps) (let f : name ≡ p.0 = cc in f))
same_names (p ∷ ps) (suc k) name value at = ap (λ (l : List (List ℕ)). p.0 ∷ l) (same_names ps k name value at)

pub put_known : (ps : List (List ℕ × List ℕ)) (old new : Params) (name value : List ℕ) (k : ℕ) → HoldsParams ps old → IsNumbered old.names name new.names k → k < length old.items → new.items ≡ slice_set old.items k (name, value) →
    IsPut ps name value new
put_known ps old new name value k holds numbered low set = by numbered.adds
  where
    by : AddsName old.names name new.names → IsPut ps name value new
    by (inl known) =
        let first : IsFirstPlace (names_of ps) name k = subst (λ l. IsFirstPlace l name k) (known.1 ∙ holds.names) numbered.at in
        record {
          new = slice_set ps k (name, value);
          puts = inl (k, first, refl);
          holds = record {
            items = set ∙ ap (λ (l : List (List ℕ × List ℕ)). slice_set l k (name, value)) holds.items;
            names = known.1 ∙ (holds.names ∙ sym (same_names ps k name value first.there));
          };
        }
    by (inr fresh) =
        let at = subst (λ l. slice_get l k ≡ Some name) fresh.1 numbered.at.there in
        absurd (elim (get_either old.names (name ∷ []) k name at) [
          | inl front ↦ fresh.0 (has_at old.names k name front)
          | inr behind ↦ omega (arith, behind.1, low, ap length holds.items, ap length holds.names, length-map ps (λ (p : List ℕ × List ℕ). p.0))
        ])

pub put_new : (ps : List (List ℕ × List ℕ)) (old new : Params) (name value : List ℕ) (k : ℕ) → HoldsParams ps old → IsNumbered old.names name new.names k → length old.items ≤ k → new.items ≡ old.items ++ (name, value) ∷ [] →
    IsPut ps name value new
put_new ps old new name value k holds numbered high pushed = by numbered.adds
  where
    by : AddsName old.names name new.names → IsPut ps name value new
    by (inl known) =
        let at = subst (λ l. slice_get l k ≡ Some name) known.1 numbered.at.there in
        absurd (omega (arith, slice_get_within old.names k name at, high, ap length holds.items, ap length holds.names, length-map ps (λ (p : List ℕ × List ℕ). p.0)))
    by (inr fresh) = record {
      new = ps ++ (name, value) ∷ [];
      puts = inr (λ has. fresh.0 (subst (λ l. Has l name) (sym holds.names) has), refl);
      holds = record {
        items = pushed ∙ ap (λ (l : List (List ℕ × List ℕ)). l ++ (name, value) ∷ []) holds.items;
        names = fresh.1 ∙ (ap (λ l. l ++ name ∷ []) holds.names ∙ sym (map-append (λ (p : List ℕ × List ℕ). p.0) ps ((name, value) ∷ [])));
      };
    }

same_pair : (a b c d : List ℕ) → a ≡ b → c ≡ d → ◌≡◌ {A = List ℕ × List ℕ} (a, c) (b, d)
same_pair a b c d x y = ap (λ (l : List ℕ). (l, c)) x ∙ ap (λ (l : List ℕ). (b, l)) y

pub sets_known : (ps : List (List ℕ × List ℕ)) (old new : Params) (name value kept given : List ℕ) (k : ℕ) → HoldsParams ps old → IsNumbered old.names name new.names k → k < length old.items →
    new.items ≡ slice_set old.items k (kept, given) → kept ≡ name → given ≡ value → IsPut ps name value new
sets_known ps old new name value kept given k holds numbered low set is says =
    put_known ps old new name value k holds numbered low (set ∙ ap (λ (p : List ℕ × List ℕ). slice_set old.items k p) (same_pair kept name given value is says))

pub pushes_new : (ps : List (List ℕ × List ℕ)) (old new : Params) (name value kept given : List ℕ) (k : ℕ) → HoldsParams ps old → IsNumbered old.names name new.names k → length old.items ≤ k →
    new.items ≡ old.items ++ (kept, given) ∷ [] → kept ≡ name → given ≡ value → IsPut ps name value new
pushes_new ps old new name value kept given k holds numbered high pushed is says =
    put_new ps old new name value k holds numbered high (pushed ∙ ap (λ (p : List ℕ × List ℕ). old.items ++ p ∷ []) (same_pair kept name given value is says))
