-- Steps by which a programming says which edges are taken.
use Rattle.std.proofs.Common.{◌≡◌, ◌+◌, ◌⊎◌, inl, inr, ℕ, List, Some, refl, sym, ap, ◌∙◌, subst, arith}
use Rattle.std.specs.Prelude.{slice_get}
use Rattle.std.proofs.lemmas.Bool.Decides.{eqb_tells}
use Rattle.pb_expand.specs.declared.number.Edge.{Edge}
use Rattle.pb_expand.specs.declared.number.EdgeIx.{EdgeIx}
use Rattle.pb_expand.specs.Graph.{Graph, edge_ix}
use Rattle.prog_map.specs.Choices.{Choices, pick_of}
use Rattle.prog_map.specs.Settings.{SetsPick}
use Rattle.task_types.specs.declared.decision.Decision.{Decision}
use Rattle.task_types.specs.Decisions.{edge_in}
use Rattle.search_real.specs.Said.{IsPicked, Says}
use Rattle.search_real.proofs.Saying.{same_modes, same_uses, same_wires}

some_injective : {X : Type 0} {x y : X} → Some x ≡ Some y → x ≡ y
some_injective e = cc

edge_same : (a b : ℕ) → Some (Some (edge_ix a)) ≡ Some (Some (edge_ix b)) → a ≡ b
edge_same a b both = ap (λ (e : EdgeIx). e.0) (some_injective (some_injective both))

same_or_not : (a b c d : ℕ) → ((a ≡ c) × (b ≡ d)) ⊎ ((a ≡ c) × (b ≡ d) → ⊥)
same_or_not a b c d = elim (eqb_tells a c) [
  | inl first ↦ elim (eqb_tells b d) [
    | inl second ↦ inl (first.1, second.1)
    | inr apart ↦ inr (λ same. apart.1 same.1)
  ]
  | inr apart ↦ inr (λ same. apart.1 same.0)
]

module _ (g : Graph) (made : List Decision) (n : ℕ) (edge : Edge) (is : slice_get g.edges n ≡ Some edge) where
  further : (pin mode number : ℕ) → IsPicked g made n pin mode number → IsPicked g made (n + 1) pin mode number
  further pin mode number picked = record { before = omega (arith, picked.before); into = picked.into; taken = picked.taken }

  -- what was picked before the next edge, but for that edge
  earlier : (pin mode number : ℕ) → ((pin ≡ edge.dst.0) × (mode ≡ edge.mode) × (number ≡ n) → ⊥) → IsPicked g made (n + 1) pin mode number → IsPicked g made n pin mode number
  earlier pin mode number other picked = elim (eqb_tells number n) [
    | inl same ↦ (
        let there : edge ≡ picked.into.edge = some_injective (sym is ∙ ap (λ k. slice_get g.edges k) (sym same.1) ∙ picked.into.there) in
        absurd (other (sym picked.into.ends ∙ ap (λ (e : Edge). e.dst.0) (sym there), sym picked.into.in_mode ∙ ap (λ (e : Edge). e.mode) (sym there), same.1)))
    | inr apart ↦ record { before = omega (arith, picked.before, apart.1); into = picked.into; taken = picked.taken }
  ]

  here : edge_in made edge.dst.0 edge.mode ≡ Some (Some (edge_ix n)) → IsPicked g made (n + 1) edge.dst.0 edge.mode n
  here taken = record { before = omega arith; into = record { edge = edge; there = is; ends = refl; in_mode = refl }; taken = taken }

  pub pick_put : (old new : Choices) (modes uses wires : ℕ) → Says g made old modes uses wires n → edge_in made edge.dst.0 edge.mode ≡ Some (Some (edge_ix n)) → SetsPick old new edge.dst.0 edge.mode n →
      Says g made new modes uses wires (n + 1)
  pick_put old new modes uses wires says taken sets = record {
    modes_said = same_modes g made old new modes sets.modes says.modes_said;
    uses_said = same_uses g made old new uses sets.uses says.uses_said;
    wires_said = same_wires g made old new wires sets.luts says.wires_said;
    picks_said = record { exact = λ pin mode number. (forth pin mode number, back pin mode number) };
  }
    where
      forth : (pin mode number : ℕ) → pick_of new pin mode ≡ Some number → IsPicked g made (n + 1) pin mode number
      forth pin mode number picks = elim (same_or_not pin mode edge.dst.0 edge.mode) [
        | inl same ↦ (
            let at : pick_of new edge.dst.0 edge.mode ≡ Some number = ap (λ p. pick_of new p edge.mode) (sym same.0) ∙ ap (λ m. pick_of new pin m) (sym same.1) ∙ picks in
            let number_is : n ≡ number = some_injective (sym sets.here ∙ at) in
            subst (λ p. IsPicked g made (n + 1) p mode number) (sym same.0) (subst (λ m. IsPicked g made (n + 1) edge.dst.0 m number) (sym same.1)
            (subst (λ k. IsPicked g made (n + 1) edge.dst.0 edge.mode k) number_is (here taken))))
        | inr apart ↦ further pin mode number ((says.picks_said.exact pin mode number).0 (sym (sets.picks pin mode apart) ∙ picks))
      ]

      back : (pin mode number : ℕ) → IsPicked g made (n + 1) pin mode number → pick_of new pin mode ≡ Some number
      back pin mode number picked = elim (same_or_not pin mode edge.dst.0 edge.mode) [
        | inl same ↦ (
            let both : Some (Some (edge_ix n)) ≡ Some (Some (edge_ix number)) = sym taken ∙ ap (λ p. edge_in made p edge.mode) (sym same.0) ∙ ap (λ m. edge_in made pin m) (sym same.1) ∙ picked.taken in
            let number_is : n ≡ number = edge_same n number both in
            ap (λ p. pick_of new p mode) same.0 ∙ ap (λ m. pick_of new edge.dst.0 m) same.1 ∙ sets.here ∙ ap (λ k. Some k) number_is)
        | inr apart ↦ sets.picks pin mode apart ∙ (says.picks_said.exact pin mode number).1 (earlier pin mode number (λ same. apart (same.0, same.1)) picked)
      ]

  pub no_pick : (c : Choices) (modes uses wires : ℕ) → Says g made c modes uses wires n → (edge_in made edge.dst.0 edge.mode ≡ Some (Some (edge_ix n)) → ⊥) → Says g made c modes uses wires (n + 1)
  no_pick c modes uses wires says other = record {
    modes_said = says.modes_said;
    uses_said = says.uses_said;
    wires_said = says.wires_said;
    picks_said = record {
      exact = λ pin mode number. (
        λ picks. further pin mode number ((says.picks_said.exact pin mode number).0 picks),
        λ picked. (says.picks_said.exact pin mode number).1 (earlier pin mode number (not_here pin mode number picked) picked),
      );
    };
  }
    where
      not_here : (pin mode number : ℕ) → IsPicked g made (n + 1) pin mode number → (pin ≡ edge.dst.0) × (mode ≡ edge.mode) × (number ≡ n) → ⊥
      not_here pin mode number picked same =
          other (ap (λ p. edge_in made p edge.mode) (sym same.0) ∙ ap (λ m. edge_in made pin m) (sym same.1) ∙ picked.taken ∙ ap (λ k. Some (Some (edge_ix k))) same.2)
