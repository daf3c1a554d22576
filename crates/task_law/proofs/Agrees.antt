-- A realisation agrees with decisions: what then holds of it.
use Rattle.std.proofs.Common.{◌≡◌, ◌==◌, ◌&&◌, inl, inr, ℕ, false, List, [], ◌∷◌, Option, Some, None, refl, sym, ap, ◌∙◌, subst, arith}
use Rattle.std.specs.Prelude.{slice_get}
use Rattle.std.specs.Option.{option_map}
use Rattle.std.proofs.lemmas.Bool.{cases_Bool}
use Rattle.std.proofs.lemmas.Bool.Decides.{eqb_tells, nat_tests}
use Rattle.pb_expand.specs.declared.number.PbIx.{PbIx}
use Rattle.pb_expand.specs.declared.number.EdgeIx.{EdgeIx}
use Rattle.pb_expand.specs.Graph.{Graph}
use Rattle.prog_map.specs.declared.choice.LutChoice.TheVariants as lut
use Rattle.prog_map.specs.Choices.{mode_of, pick_of, is_used, lut_of}
use Rattle.prog_map.specs.Live.{IsLiveAt}
use Rattle.task_types.specs.declared.real.Real.{Real}
use Rattle.task_types.specs.declared.decision.Decision.{Decision}
use Rattle.task_types.specs.declared.decision.Decision.TheVariants as decision
use Rattle.task_types.specs.declared.decision.Occupant.{Occupant}
use Rattle.task_types.specs.declared.decision.Occupant.TheVariants.{Nobody, Atom, Wire}
use Rattle.task_types.specs.Decisions.{mode_in, occupant_in, edge_in, entry_in, is_host, is_placed}
use Rattle.task_types.specs.Realises.{IsAt, net_at}
use Rattle.task_types.specs.Open.{IsOpen}
use Rattle.task_law.proofs.Base.{some_injective}

abbrev pub AgreesLeaf : Real → ℕ → Occupant → Type 0
AgreesLeaf r leaf Nobody = is_used r.prog leaf ≡ false
AgreesLeaf r leaf (Atom place) = IsAt r place leaf
AgreesLeaf r leaf (Wire input) = lut_of r.prog leaf ≡ Some (lut.Wire input)

abbrev pub Agrees : Real → Decision → Type 0
Agrees r (decision.Mode at mode) = mode_of r.prog at.0 ≡ Some mode
Agrees r (decision.Occupant at occupant) = AgreesLeaf r at.0 occupant
Agrees r (decision.Edge at mode edge) = pick_of r.prog at.0 mode ≡ option_map (λ (e : EdgeIx). e.0) edge
Agrees r (decision.Entry at net) = net_at r.entries at.0 ≡ net

abbrev pub AgreesAll : Real → List Decision → Type 0
AgreesAll r [] = Unit {0}
AgreesAll r (d ∷ made) = Agrees r d × AgreesAll r made

pub mode_agrees : (r : Real) (made : List Decision) (pb m : ℕ) → AgreesAll r made → mode_in made pb ≡ Some m → mode_of r.prog pb ≡ Some m
mode_agrees r [] pb m all is = cc
mode_agrees r (decision.Mode at k ∷ made) pb m all is = elim (eqb_tells at.0 pb) [
  | inl same ↦ (let here : Some k ≡ Some m = rw same.0 at is in ap (λ x. mode_of r.prog x) (sym same.1) ∙ all.0 ∙ here)
  | inr apart ↦ mode_agrees r made pb m all.1 (rw apart.0 at is)
]
mode_agrees r (decision.Occupant at o ∷ made) pb m all is = mode_agrees r made pb m all.1 is
mode_agrees r (decision.Edge at k e ∷ made) pb m all is = mode_agrees r made pb m all.1 is
mode_agrees r (decision.Entry at o ∷ made) pb m all is = mode_agrees r made pb m all.1 is

pub occupant_agrees : (r : Real) (made : List Decision) (leaf : ℕ) (w : Occupant) → AgreesAll r made → occupant_in made leaf ≡ Some w → AgreesLeaf r leaf w
occupant_agrees r [] leaf w all is = cc
occupant_agrees r (decision.Occupant at o ∷ made) leaf w all is = elim (eqb_tells at.0 leaf) [
  | inl same ↦ (let here : Some o ≡ Some w = rw same.0 at is in
      subst (λ x. AgreesLeaf r leaf x) (some_injective here) (subst (λ x. AgreesLeaf r x o) same.1 all.0))
  | inr apart ↦ occupant_agrees r made leaf w all.1 (rw apart.0 at is)
]
occupant_agrees r (decision.Mode at k ∷ made) leaf w all is = occupant_agrees r made leaf w all.1 is
occupant_agrees r (decision.Edge at k e ∷ made) leaf w all is = occupant_agrees r made leaf w all.1 is
occupant_agrees r (decision.Entry at o ∷ made) leaf w all is = occupant_agrees r made leaf w all.1 is

pub edge_agrees : (r : Real) (made : List Decision) (pin m : ℕ) (w : Option EdgeIx) → AgreesAll r made → edge_in made pin m ≡ Some w →
    pick_of r.prog pin m ≡ option_map (λ (e : EdgeIx). e.0) w
edge_agrees r [] pin m w all is = cc
edge_agrees r (decision.Edge at k e ∷ made) pin m w all is = elim (cases_Bool ((at.0 == pin) && (k == m))) [
  | inl t ↦ (
      let here : Some e ≡ Some w = rw t at is in
      let pins : at.0 ≡ pin = grind (arith, nat_tests) in
      let modes : k ≡ m = grind (arith, nat_tests) in
      ap (λ x. pick_of r.prog x m) (sym pins) ∙ ap (λ x. pick_of r.prog at.0 x) (sym modes) ∙ all.0 ∙ ap (λ o. option_map (λ (e : EdgeIx). e.0) o) (some_injective here))
  | inr f ↦ edge_agrees r made pin m w all.1 (rw f at is)
]
edge_agrees r (decision.Mode at k ∷ made) pin m w all is = edge_agrees r made pin m w all.1 is
edge_agrees r (decision.Occupant at o ∷ made) pin m w all is = edge_agrees r made pin m w all.1 is
edge_agrees r (decision.Entry at o ∷ made) pin m w all is = edge_agrees r made pin m w all.1 is

pub entry_agrees : (r : Real) (made : List Decision) (pin : ℕ) (w : Option ℕ) → AgreesAll r made → entry_in made pin ≡ Some w → net_at r.entries pin ≡ w
entry_agrees r [] pin w all is = cc
entry_agrees r (decision.Entry at o ∷ made) pin w all is = elim (eqb_tells at.0 pin) [
  | inl same ↦ (let here : Some o ≡ Some w = rw same.0 at is in ap (λ x. net_at r.entries x) (sym same.1) ∙ all.0 ∙ some_injective here)
  | inr apart ↦ entry_agrees r made pin w all.1 (rw apart.0 at is)
]
entry_agrees r (decision.Mode at k ∷ made) pin w all is = entry_agrees r made pin w all.1 is
entry_agrees r (decision.Occupant at o ∷ made) pin w all is = entry_agrees r made pin w all.1 is
entry_agrees r (decision.Edge at k e ∷ made) pin w all is = entry_agrees r made pin w all.1 is

-- an instance that is live by what was decided is live
pub live_agrees : (g : Graph) (r : Real) (made : List Decision) (pb : ℕ) → AgreesAll r made → IsLiveAt g (mode_in made) pb → IsLiveAt g (mode_of r.prog) pb
live_agrees g r made pb all live = record {
  inside = live.inside;
  each = λ above mode stands. mode_agrees r made above mode all (live.each above mode stands);
}

-- and one that is live is open
pub open_agrees : (g : Graph) (r : Real) (made : List Decision) (pb : ℕ) → AgreesAll r made → IsLiveAt g (mode_of r.prog) pb → IsOpen g (mode_in made) pb
open_agrees g r made pb all live = record {
  each = λ above mode decided stands is. some_injective (sym (mode_agrees r made above decided all is) ∙ live.each above mode stands);
}

-- an atom whose home is a leaf of which nothing is decided isn't placed yet
not_host : (r : Real) (l place leaf : ℕ) (o : Occupant) → (l ≡ leaf → ⊥) → AgreesLeaf r l o → IsAt r place leaf → is_host o place ≡ false
not_host r l place leaf Nobody apart is at = refl
not_host r l place leaf (Wire i) apart is at = refl
not_host r l place leaf (Atom a) apart is at = elim (eqb_tells a place) [
  | inl same ↦ absurd (apart (ap (λ (x : PbIx). x.0) (some_injective (sym is ∙ ap (λ k. slice_get r.homes k) same.1 ∙ at))))
  | inr other ↦ other.0
]

pub unplaced : (r : Real) (made : List Decision) (place leaf : ℕ) → AgreesAll r made → occupant_in made leaf ≡ None → IsAt r place leaf → is_placed made place ≡ false
unplaced r [] place leaf all unset at = refl
unplaced r (decision.Mode p m ∷ made) place leaf all unset at = unplaced r made place leaf all.1 unset at
unplaced r (decision.Edge p m e ∷ made) place leaf all unset at = unplaced r made place leaf all.1 unset at
unplaced r (decision.Entry p o ∷ made) place leaf all unset at = unplaced r made place leaf all.1 unset at
unplaced r (decision.Occupant l o ∷ made) place leaf all unset at = elim (eqb_tells l.0 leaf) [
  | inl same ↦ absurd (let x : Some o ≡ None = rw same.0 at unset in let bad : ⊥ = cc x in bad)
  | inr apart ↦ (let first : is_host o place ≡ false = not_host r l.0 place leaf o apart.1 all.0 at in
      rw first (unplaced r made place leaf all.1 (rw apart.0 at unset) at))
]
