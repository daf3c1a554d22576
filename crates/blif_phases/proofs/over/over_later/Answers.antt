use Rattle.std.proofs.Common.{inl, inr, refl}
use Rattle.blif_phases.proofs.OneStep.{untrue}
use Rattle.blif_phases.proofs.over.over_later.Goals as goal

pub returns-then-is_lone : goal.returns-then-is_lone
returns-then-is_lone c = λ l holds. inl ((c.is_lone.ensures l holds).0 c.if-is_lone.true, refl)

pub returns-then-is_lone-2 : goal.returns-then-is_lone-2
returns-then-is_lone-2 c = λ l holds. (c.is_lone-2.ensures l holds).0 c.if-is_lone-2.true

pub returns : goal.returns
returns c = λ l holds.
    inr (λ lone. untrue _ c.if-is_lone.false ((c.is_lone.ensures l holds).1 lone), λ lone. untrue _ c.if-is_lone-2.false ((c.is_lone-2.ensures l holds).1 lone), refl)
