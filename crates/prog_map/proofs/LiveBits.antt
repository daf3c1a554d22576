-- A bit for each instance, whether it is live.
use Rattle.std.proofs.Common.{◌≡◌, ◌≢◌, ◌⊎◌, ◌<◌, ◌+◌, inl, inr, ℕ, zero, suc, Bool, true, false, List, [], ◌∷◌, ◌++◌, Option, Some, length, get_or, sym, ap, ◌∙◌, subst, arith}
use Rattle.std.specs.Prelude.{◌↔◌, IsTrue, slice_get}
use Rattle.std.proofs.lemmas.Option.{slice_get-get_or}
use Rattle.std.proofs.lemmas.Bool.{cases_eq}
use Rattle.std.proofs.lemmas.List.{length_push}
use Rattle.list_laws.proofs.Places.{get_front, get_after, get_either}
use Rattle.pb_expand.specs.declared.number.Step.{Step}
use Rattle.pb_expand.specs.Graph.{Graph, LeadsTo}
use Rattle.prog_map.specs.Live.{IsLiveAt, IsLiveBelow, AreLive, AreLiveBefore}
use Rattle.prog_map.proofs.Climbs.{some_injective}

false_true : {X : Type 0} → false ≡ true → X
false_true e = absurd (cc)

module _ (g : Graph) (modes : ℕ → Option ℕ) (live : List Bool) (n : ℕ) (s : Step) (before : AreLiveBefore g modes live n) (to : LeadsTo g.instances s n) where
  earlier : s.parent.0 < length live
  earlier = let low = to.before in omega (arith, low, before.all)

  pub parent_dead : get_or live s.parent.0 false ≡ false → IsLiveBelow g modes s n → IsTrue false ↔ IsLiveAt g modes n
  parent_dead dead below = (
    λ yes. false_true yes,
    λ here.
        let bit : slice_get live s.parent.0 ≡ Some true = (before.exact s.parent.0).1 (to.before, (below.0 here).0) in
        false_true (some_injective (sym (slice_get-get_or live s.parent.0 false earlier ∙ ap Some dead) ∙ bit)),
  )

  pub parent_live : get_or live s.parent.0 false ≡ true → IsLiveBelow g modes s n → {b : Bool} → (IsTrue b ↔ (modes s.parent.0 ≡ Some s.mode)) → IsTrue b ↔ IsLiveAt g modes n
  parent_live alive below set = (
    λ yes. below.1 (((before.exact s.parent.0).0 (slice_get-get_or live s.parent.0 false earlier ∙ ap Some alive)).1, set.0 yes),
    λ here. set.1 (below.0 here).1,
  )

-- one instance more
pub live_more : (g : Graph) (modes : ℕ → Option ℕ) (live : List Bool) (n : ℕ) (b : Bool) → AreLiveBefore g modes live n → (IsTrue b ↔ IsLiveAt g modes n) →
    AreLiveBefore g modes (live ++ b ∷ []) (n + 1)
live_more g modes live n b before here = record {
  all = omega (arith, length_push live b, before.all);
  exact = λ pb. (λ bit. forth pb (get_either live (b ∷ []) pb true bit), λ is. back pb is.1 (cases_eq pb n) is.0);
}
  where
    at_end : slice_get (live ++ b ∷ []) n ≡ Some b
    at_end = get_after live [] b n (sym before.all)

    last : (j pb : ℕ) → pb ≡ length live + j → slice_get (b ∷ []) j ≡ Some true → (pb < n + 1) × IsLiveAt g modes pb
    last zero pb place bit =
        let number : pb ≡ n = omega (arith, place, before.all) in
        (omega (arith, number), subst (λ k. IsLiveAt g modes k) (sym number) (here.0 (some_injective bit)))
    last (suc j) pb place bit = absurd (cc)

    forth : (pb : ℕ) → ((slice_get live pb ≡ Some true) ⊎ ((j : ℕ) × (pb ≡ length live + j) × (slice_get (b ∷ []) j ≡ Some true))) → (pb < n + 1) × IsLiveAt g modes pb
    forth pb (inl front) = let is = (before.exact pb).0 front in let low = is.0 in (omega (arith, low), is.1)
    forth pb (inr end) = last end.0 pb end.1 end.2

    back : (pb : ℕ) → IsLiveAt g modes pb → (pb ≡ n) ⊎ (pb ≢ n) → pb < n + 1 → slice_get (live ++ b ∷ []) pb ≡ Some true
    back pb is (inl same) low =
        ap (λ k. slice_get (live ++ b ∷ []) k) same ∙ at_end ∙ ap Some (here.1 (subst (λ k. IsLiveAt g modes k) same is))
    back pb is (inr other) low = get_front live (b ∷ []) pb true ((before.exact pb).1 (omega (arith, low, other), is))

pub live_whole : (g : Graph) (modes : ℕ → Option ℕ) (live : List Bool) (n : ℕ) → n ≡ length g.instances → AreLiveBefore g modes live n → AreLive g modes live
live_whole g modes live n whole before = record {
  all = before.all ∙ whole;
  exact = λ pb. (λ bit. ((before.exact pb).0 bit).1, λ is. (before.exact pb).1 (subst (λ k. pb < k) (sym whole) is.inside, is));
}
