use Rattle.std.proofs.Common.{◌≡◌, ◌≤◌, ◌<◌, ◌⊎◌, ℕ, length, subst, inl, inr}
use Rattle.std.proofs.lemmas.Bool.{cases_lt, false≢true}
use Rattle.std.proofs.lemmas.Result.{IfErr-weaker}
use Rattle.blif_errors.specs.declared.error.BlifError.{BlifError}
use Rattle.blif_errors.specs.declared.error.BlifError.TheVariants.{OutOfMemory}
use Rattle.net_types.specs.declared.parts.NetlistParts.{NetlistParts}
use Rattle.blif_parts.specs.Atoms.{atoms_of, net_of}
use Rattle.blif_wholes.specs.Wholes.{IsFaulty, IsWholeRefused}
use Rattle.blif_wholes.proofs.whole.into_netlist.Goals as goal

few_of : (n : ℕ) → (65536 < n → ⊥) → n ≤ 65536
few_of n not = elim (cases_lt 65536 n) [ inl more ↦ absurd (not more) | inr few ↦ few ]

widen : (n m : NetlistParts) → n ≡ m → length m.atoms ≤ 65536 → (e : BlifError) → (e ≡ OutOfMemory) ⊎ IsFaulty n e → (e ≡ OutOfMemory) ⊎ IsWholeRefused m e
widen n m is few e (inl memory) = inl memory
widen n m is few e (inr faulty) = inr (inr (few, subst (λ (o : NetlistParts). IsFaulty o e) is faulty))

pub returns-clause-refused : goal.returns-clause-refused
returns-clause-refused c =
    let few = few_of (length (atoms_of c.args.parts)) (λ more. false≢true (c.if-has_too_many.ensures.1 more)) in
    IfErr-weaker c.whole.result _ _ (widen c.in_ok-net.net (net_of c.args.parts) c.in_ok-net.ensures few) c.whole.ensures.refused
