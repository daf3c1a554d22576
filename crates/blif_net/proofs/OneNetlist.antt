-- A file says one netlist, or is refused for one reason.
use Rattle.std.proofs.Common.{◌∙◌, inl, inr, sym, ap, subst}
use Rattle.net_types.specs.WellFormed.{IsNetlist}
use Rattle.blif_parts.specs.declared.parts.ModelParts.{ModelParts}
use Rattle.blif_parts.specs.Atoms.{net_of}
use Rattle.blif_files.specs.Laws.{HasOneModel, HasOneRefusal as HasOneReason, NeverBoth as NeverSaid}
use Rattle.blif_wholes.specs.Laws.{HasOneRefusal as HasOneFault, NeverBoth as NeverFaulty}
use Rattle.blif_wholes.specs.Wholes.{IsWholeRefused}
use Rattle.blif_net.specs.Laws.{HasOneNetlist, HasOneRefusal, NeverBoth}

-- what a caller knows of files and of wholes
pub record Knows : Type 0 where
  pub model : HasOneModel
  pub reason : HasOneReason
  pub never : NeverSaid
  pub fault : HasOneFault
  pub sound : NeverFaulty

pub one_net : Knows → HasOneNetlist
one_net k models bytes m n x y = x.are ∙ (ap net_of (k.model models bytes x.parts y.parts x.says y.says) ∙ sym y.are)

pub one_reason : Knows → HasOneRefusal
one_reason k models bytes d e (inl x) (inl y) = k.reason models bytes d e x y
one_reason k models bytes d e (inl x) (inr y) = absurd (k.never models bytes y.parts d y.says x)
one_reason k models bytes d e (inr x) (inl y) = absurd (k.never models bytes x.parts e x.says y)
one_reason k models bytes d e (inr x) (inr y) =
    k.fault (net_of x.parts) d e x.refused (subst (λ (p : ModelParts). IsWholeRefused (net_of p) e) (k.model models bytes y.parts x.parts y.says x.says) y.refused)

pub not_both : Knows → NeverBoth
not_both k models bytes n e x (inl y) = k.never models bytes x.parts e x.says y
not_both k models bytes n e x (inr y) =
    k.sound (net_of x.parts) e (subst IsNetlist x.are x.whole) (subst (λ (p : ModelParts). IsWholeRefused (net_of p) e) (k.model models bytes y.parts x.parts y.says x.says) y.refused)
