-- From which pins nets come, and where they come in.
use Rattle.std.proofs.Common.{◌≡◌, inl, inr, ℕ, zero, suc, List, [], ◌∷◌, Some, slice_get, refl, sym, ap, ◌∙◌, subst, arith}
use Rattle.std.proofs.lemmas.Bool.Decides.{eqb_tells}
use Rattle.pb_expand.specs.declared.number.PinAt.{PinAt}
use Rattle.pb_expand.specs.declared.number.Edge.{Edge}
use Rattle.pb_expand.specs.Graph.{Graph}
use Rattle.net_types.specs.declared.atom.Atom.{Atom}
use Rattle.task_types.specs.declared.task.Task.{Task}
use Rattle.task_types.specs.declared.task.TaskNet.{TaskNet}
use Rattle.task_types.specs.declared.task.Entry.{Entry}
use Rattle.task_types.specs.declared.decision.Decision.{Decision}
use Rattle.task_types.specs.Nets.{NetSaid}
use Rattle.task_types.specs.Ends.{IsAtom, IsFirstPin}
use Rattle.task_types.specs.Open.{IsOpenTo}
use Rattle.task_types.specs.Realises.{net_at}
use Rattle.task_open.specs.Steps.{MayTake}
use Rattle.task_reach.specs.Gains.{Gains}
use Rattle.task_reach.specs.Valid.{AscendByPin}
use Rattle.task_reach.specs.Reached.{MayComeBy, DrivesAt}
use Rattle.task_reach.proofs.Growing.{gains_like}

some_same : {X : Type 0} {x y : X} → Some x ≡ Some y → x ≡ y
some_same e = cc

pub source_is : (g : Graph) (made : List Decision) (number : ℕ) (edge : Edge) (xs ys : List ℕ) → MayTake g made number → slice_get g.edges number ≡ Some edge → Gains xs ys (λ q. q ≡ edge.src.0) → Gains xs ys (MayComeBy g made number)
source_is g made number edge xs ys may is gains =
    gains_like xs ys (λ q. q ≡ edge.src.0) (MayComeBy g made number) gains
    (λ q same. record { may = may; starts = ap (λ (e : Edge). e.src.0) (some_same (sym may.is ∙ is)) ∙ sym same })
    (λ q by. sym by.starts ∙ ap (λ (e : Edge). e.src.0) (some_same (sym by.may.is ∙ is)))

one_atom : (n : NetSaid) (t : Task) (place : ℕ) (a b : Atom) → IsAtom n t place a → IsAtom n t place b → a ≡ b
one_atom n t place a b x y =
    let number : x.number ≡ y.number = some_same (sym x.listed ∙ y.listed) in
    some_same (sym x.is ∙ ap (λ k. slice_get n k) number ∙ y.is)

module _ (g : Graph) (n : NetSaid) (t : Task) (made : List Decision) (number pin maker : ℕ) (of : TaskNet) (is_net : slice_get t.nets number ≡ Some of) (is_maker : of.maker ≡ Some maker) where
  pub no_maker_atom : ((atom : Atom) → IsAtom n t maker atom → ⊥) → IsFirstPin g n t (IsOpenTo g t made) number pin → ⊥
  no_maker_atom none first =
      let net : first.made.of ≡ of = some_same (sym first.made.is_net ∙ is_net) in
      let place : first.place ≡ maker = some_same (sym first.made.maker ∙ ap (λ (o : TaskNet). o.maker) net ∙ is_maker) in
      none first.made.atom (subst (λ p. IsAtom n t p first.made.atom) place first.made.is_atom)

  module _ (atom : Atom) (is_atom : IsAtom n t maker atom) (at : PinAt) (is_pin : slice_get g.pins pin ≡ Some at) where
    pub first_to : DrivesAt g atom.kind atom.outs of.net at → IsOpenTo g t made maker at.pb.0 → IsFirstPin g n t (IsOpenTo g t made) number pin
    first_to drives opens = record {
      place = maker;
      leaf = at.pb.0;
      at = opens;
      made = record {
        of = of;
        is_net = is_net;
        maker = is_maker;
        atom = atom;
        is_atom = is_atom;
        number = drives.number;
        is = drives.out;
        is_conn = drives.is_out;
        of_net = drives.of_net;
        at = record {
          on = record { at = at; is = is_pin; of_pb = refl; port = drives.port; is_port = drives.is_port; fits = drives.fits };
          bit = drives.bit;
        };
      };
    }

    pub first_from : IsFirstPin g n t (IsOpenTo g t made) number pin → DrivesAt g atom.kind atom.outs of.net at × IsOpenTo g t made maker at.pb.0
    first_from first =
        let m = first.made in
        let net : m.of ≡ of = some_same (sym m.is_net ∙ is_net) in
        let place : first.place ≡ maker = some_same (sym m.maker ∙ ap (λ (o : TaskNet). o.maker) net ∙ is_maker) in
        let same_atom : m.atom ≡ atom = one_atom n t maker m.atom atom (subst (λ p. IsAtom n t p m.atom) place m.is_atom) is_atom in
        let same_pin : m.at.on.at ≡ at = some_same (sym m.at.on.is ∙ is_pin) in
        let drives : DrivesAt g m.atom.kind m.atom.outs m.of.net m.at.on.at =
        record { port = m.at.on.port; is_port = m.at.on.is_port; number = m.number; out = m.is; is_out = m.is_conn; of_net = m.of_net; bit = m.at.bit; fits = m.at.on.fits } in (
          subst (λ (a : PinAt). DrivesAt g atom.kind atom.outs of.net a) same_pin (subst (λ (o : TaskNet). DrivesAt g atom.kind atom.outs o.net m.at.on.at) net (subst (λ (a : Atom). DrivesAt g a.kind a.outs m.of.net m.at.on.at) same_atom drives)),
          subst (λ l. IsOpenTo g t made maker l) (sym m.at.on.of_pb ∙ ap (λ (a : PinAt). a.pb.0) same_pin) (subst (λ p. IsOpenTo g t made p first.leaf) place first.at),
        )

-- among entries by ascending pins, each is the one at its pin
pub entry_found : (es : List Entry) (i : ℕ) (e : Entry) → AscendByPin es → slice_get es i ≡ Some e → net_at es e.pin.0 ≡ Some e.net
entry_found [] i e ascend is = absurd (let bad : ⊥ = cc is in bad)
entry_found (x ∷ es) zero e ascend is =
    let same : x ≡ e = some_same is in
    elim (eqb_tells x.pin.0 e.pin.0) [
      | inl here ↦ rw here.0 (ap (λ (y : Entry). Some y.net) same)
      | inr apart ↦ absurd (apart.1 (ap (λ (y : Entry). y.pin.0) same))
    ]
entry_found (x ∷ es) (suc i) e ascend is =
    let less = ascend.each 0 (suc i) x e (omega arith) refl is in
    elim (eqb_tells x.pin.0 e.pin.0) [
      | inl here ↦ absurd (let same = here.1 in omega (arith, less, same))
      | inr apart ↦ rw apart.0 (entry_found es i e (record { each = λ j k a b before at_j at_k. ascend.each (suc j) (suc k) a b (omega arith) at_j at_k }) is)
    ]
