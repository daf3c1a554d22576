-- Steps by which a programming says what was decided of instances.
use Rattle.std.proofs.Common.{◌≡◌, ◌<◌, ◌+◌, inl, inr, ℕ, true, false, List, Some, None, sym, ap, ◌∙◌, subst, arith}
use Rattle.std.specs.FinMap.{get-empty}
use Rattle.std.specs.FinSet.{contains-empty}
use Rattle.std.specs.Ordering.{nat_cmp}
use Rattle.std.proofs.lemmas.Bool.Decides.{eqb_tells}
use Rattle.pb_expand.specs.Graph.{Graph}
use Rattle.prog_map.specs.declared.choice.LutChoice.{LutChoice}
use Rattle.prog_map.specs.Choices.{Choices, site_cmp, no_choices, mode_of, pick_of, is_used, lut_of}
use Rattle.prog_map.specs.Settings.{SetsMode, SetsUsed, SetsLut}
use Rattle.task_types.specs.declared.decision.Decision.{Decision}
use Rattle.task_types.specs.Decisions.{mode_in, occupant_in}
use Rattle.search_rules.specs.Reading.{is_taken, wire_of}
use Rattle.search_real.specs.Said.{SaysModes, SaysUses, SaysWires, SaysPicks, Says}

none_some : {X : Type 0} {x : X} → None ≡ Some x → ⊥
none_some e = cc

-- what holds below n, and of n, holds below the next
below_next : (P : ℕ → Type 0) (n : ℕ) → ((k : ℕ) → k < n → P k) → P n → (k : ℕ) → k < n + 1 → P k
below_next P n below here k less = elim (eqb_tells k n) [
  | inl same ↦ subst P (sym same.1) here
  | inr apart ↦ below k (omega (arith, less, apart.1))
]

module _ (g : Graph) (made : List Decision) where
  pub first_said : (c : Choices) → c ≡ no_choices → Says g made c 0 0 0 0
  first_said c is = record {
    modes_said = record { said = λ pb less. absurd (omega (arith, less)); more = λ pb _. ap (λ x. mode_of x pb) is ∙ get-empty nat_cmp pb };
    uses_said = record { said = λ leaf less. absurd (omega (arith, less)); more = λ leaf _. ap (λ x. is_used x leaf) is ∙ contains-empty nat_cmp leaf };
    wires_said = record { said = λ leaf less. absurd (omega (arith, less)); more = λ leaf _. ap (λ x. lut_of x leaf) is ∙ get-empty nat_cmp leaf };
    picks_said = record {
      exact = λ pin mode number. (
        λ taken. absurd (none_some (sym (ap (λ x. pick_of x pin mode) is ∙ get-empty site_cmp (pin, mode)) ∙ taken)),
        λ picked. absurd (omega (arith, picked.before)),
      );
    };
  }

  -- what was said of other kinds stays

  pub same_modes : (old new : Choices) (n : ℕ) → ((q : ℕ) → mode_of new q ≡ mode_of old q) → SaysModes made old n → SaysModes made new n
  same_modes old new n same says = record { said = λ pb less. same pb ∙ says.said pb less; more = λ pb past. same pb ∙ says.more pb past }

  pub same_uses : (old new : Choices) (n : ℕ) → ((q : ℕ) → is_used new q ≡ is_used old q) → SaysUses made old n → SaysUses made new n
  same_uses old new n same says = record { said = λ pb less. same pb ∙ says.said pb less; more = λ pb past. same pb ∙ says.more pb past }

  pub same_wires : (old new : Choices) (n : ℕ) → ((q : ℕ) → lut_of new q ≡ lut_of old q) → SaysWires made old n → SaysWires made new n
  same_wires old new n same says = record { said = λ pb less. same pb ∙ says.said pb less; more = λ pb past. same pb ∙ says.more pb past }

  same_picks : (old new : Choices) (n : ℕ) → ((p m : ℕ) → pick_of new p m ≡ pick_of old p m) → SaysPicks g made old n → SaysPicks g made new n
  same_picks old new n same says = record {
    exact = λ pin mode number. (
      λ taken. (says.exact pin mode number).0 (sym (same pin mode) ∙ taken),
      λ picked. same pin mode ∙ (says.exact pin mode number).1 picked,
    );
  }

  module _ (old new : Choices) (n uses wires picks : ℕ) where
    pub mode_put : (mode : ℕ) → Says g made old n uses wires picks → mode_in made n ≡ Some mode → SetsMode old new n mode → Says g made new (n + 1) uses wires picks
    mode_put mode says is sets = record {
      modes_said = record {
        said = below_next (λ k. mode_of new k ≡ mode_in made k) n (λ k less. sets.modes k (omega (arith, less)) ∙ says.modes_said.said k less) (sets.here ∙ sym is);
        more = λ k past. sets.modes k (omega (arith, past)) ∙ says.modes_said.more k (omega (arith, past));
      };
      uses_said = same_uses old new uses sets.uses says.uses_said;
      wires_said = same_wires old new wires sets.luts says.wires_said;
      picks_said = same_picks old new picks sets.picks says.picks_said;
    }

  module _ (old new : Choices) (n modes wires picks : ℕ) where
    pub use_put : Says g made old modes n wires picks → is_taken (occupant_in made n) ≡ true → SetsUsed old new n → Says g made new modes (n + 1) wires picks
    use_put says is sets = record {
      modes_said = same_modes old new modes sets.modes says.modes_said;
      uses_said = record {
        said = below_next (λ k. is_used new k ≡ is_taken (occupant_in made k)) n (λ k less. sets.uses k (omega (arith, less)) ∙ says.uses_said.said k less) (sets.here ∙ sym is);
        more = λ k past. sets.uses k (omega (arith, past)) ∙ says.uses_said.more k (omega (arith, past));
      };
      wires_said = same_wires old new wires sets.luts says.wires_said;
      picks_said = same_picks old new picks sets.picks says.picks_said;
    }

  module _ (old new : Choices) (n modes uses picks : ℕ) where
    pub wire_put : (choice : LutChoice) → Says g made old modes uses n picks → wire_of (occupant_in made n) ≡ Some choice → SetsLut old new n choice → Says g made new modes uses (n + 1) picks
    wire_put choice says is sets = record {
      modes_said = same_modes old new modes sets.modes says.modes_said;
      uses_said = same_uses old new uses sets.uses says.uses_said;
      wires_said = record {
        said = below_next (λ k. lut_of new k ≡ wire_of (occupant_in made k)) n (λ k less. sets.luts k (omega (arith, less)) ∙ says.wires_said.said k less) (sets.here ∙ sym is);
        more = λ k past. sets.luts k (omega (arith, past)) ∙ says.wires_said.more k (omega (arith, past));
      };
      picks_said = same_picks old new picks sets.picks says.picks_said;
    }

  -- where nothing was decided, nothing is to be said

  module _ (c : Choices) (n : ℕ) where
    pub no_mode : (uses wires picks : ℕ) → Says g made c n uses wires picks → mode_in made n ≡ None → Says g made c (n + 1) uses wires picks
    no_mode uses wires picks says is = record {
      modes_said = record {
        said = below_next (λ k. mode_of c k ≡ mode_in made k) n says.modes_said.said (says.modes_said.more n (omega arith) ∙ sym is);
        more = λ k past. says.modes_said.more k (omega (arith, past));
      };
      uses_said = says.uses_said;
      wires_said = says.wires_said;
      picks_said = says.picks_said;
    }

    pub no_use : (modes wires picks : ℕ) → Says g made c modes n wires picks → is_taken (occupant_in made n) ≡ false → Says g made c modes (n + 1) wires picks
    no_use modes wires picks says is = record {
      modes_said = says.modes_said;
      uses_said = record {
        said = below_next (λ k. is_used c k ≡ is_taken (occupant_in made k)) n says.uses_said.said (says.uses_said.more n (omega arith) ∙ sym is);
        more = λ k past. says.uses_said.more k (omega (arith, past));
      };
      wires_said = says.wires_said;
      picks_said = says.picks_said;
    }

    pub no_wire : (modes uses picks : ℕ) → Says g made c modes uses n picks → wire_of (occupant_in made n) ≡ None → Says g made c modes uses (n + 1) picks
    no_wire modes uses picks says is = record {
      modes_said = says.modes_said;
      uses_said = says.uses_said;
      wires_said = record {
        said = below_next (λ k. lut_of c k ≡ wire_of (occupant_in made k)) n says.wires_said.said (says.wires_said.more n (omega arith) ∙ sym is);
        more = λ k past. says.wires_said.more k (omega (arith, past));
      };
      picks_said = says.picks_said;
    }
