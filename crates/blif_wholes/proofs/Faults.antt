-- Nets and atoms are refused in one way, and those of a netlist aren't.
use Rattle.std.proofs.Common.{◌≡◌, ℕ, List, length, sym, ap, ◌∙◌, inl, inr, arith}
use Rattle.blif_errors.specs.declared.error.BlifError.{BlifError}
use Rattle.blif_errors.specs.declared.error.BlifError.TheVariants.{NoDriver, CombLoop}
use Rattle.net_types.specs.declared.parts.NetlistParts.{NetlistParts}
use Rattle.net_types.specs.WellFormed.{IsNetlist}
use Rattle.net_faults.specs.Drivers.{AreMade}
use Rattle.net_faults.specs.Laws.{HasOneFault}
use Rattle.blif_wholes.specs.Wholes.{IsFaulty}
use Rattle.blif_wholes.specs.Laws.{HasOneRefusal, NeverBoth}

module _ (fault : HasOneFault) where
  one_faulty : (n : NetlistParts) (d e : BlifError) → IsFaulty n d → IsFaulty n e → d ≡ e
  one_faulty n d e (inl a) (inl b) = a.2 ∙ ap (λ (name : List ℕ). NoDriver name) (fault.unmade n.nets n.atoms a.0 b.0 a.1 b.1) ∙ sym b.2
  one_faulty n d e (inl a) (inr b) = absurd (fault.made n.nets n.atoms a.0 b.0 a.1)
  one_faulty n d e (inr a) (inl b) = absurd (fault.made n.nets n.atoms b.0 a.0 b.1)
  one_faulty n d e (inr a) (inr b) = a.1.2 ∙ ap (λ (names : List (List ℕ)). CombLoop names) (fault.loop n.atoms a.1.0 b.1.0 a.1.1 b.1.1) ∙ sym b.1.2

  pub one_refusal : HasOneRefusal
  one_refusal n d e (inl a) (inl b) = a.1 ∙ sym b.1
  one_refusal n d e (inl a) (inr b) = absurd (omega (arith, a.0, b.0))
  one_refusal n d e (inr a) (inl b) = absurd (omega (arith, a.0, b.0))
  one_refusal n d e (inr a) (inr b) = one_faulty n d e a.1 b.1

  never_faulty : (n : NetlistParts) (e : BlifError) → IsNetlist n → IsFaulty n e → ⊥
  never_faulty n e is (inl a) =
      let made : AreMade (length n.nets) n.atoms = λ net low. (let one = is.made net low in (one.number, (one.place, one.makes))) in
      fault.made n.nets n.atoms a.0 made a.1
  never_faulty n e is (inr a) = fault.ranked n.atoms a.1.0 is.ranks a.1.1

  pub never_both : NeverBoth
  never_both n e is (inl a) = omega (arith, a.0, is.atoms.few)
  never_both n e is (inr a) = never_faulty n e is a.1
