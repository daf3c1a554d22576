-- Lines that are in order, and those that are left.
use denote.Bor.{Bor}
use Rattle.std.proofs.Common.{◌≡◌, ◌≤◌, ◌+◌, ◌==◌, ℕ, true, List, [], ◌∷◌, ◌++◌, length, refl, sym, ap, ◌∙◌, subst, inl, inr, arith, append_assoc, append-nil}
use Rattle.std.specs.List.{All}
use Rattle.std.proofs.lemmas.List.{map-append}
use Rattle.std.proofs.lemmas.Bool.Decides.{nat_tests}
use Rattle.std.proofs.lemmas.Option.{slice_get_within, get_or_from_slice_get}
use Rattle.vtr_base.specs.Lists.{Has}
use Rattle.list_laws.proofs.Members.{at_has, from_filter}
use Rattle.arch_types.specs.declared.block.AtomKind.{AtomKind}
use Rattle.arch_types.specs.declared.block.AtomKind.TheVariants.{InPad, OutPad, Lut, Latch, Cell}
use Rattle.net_types.specs.declared.atom.Atom.{Atom}
use Rattle.net_types.specs.declared.parts.NetlistParts.{NetlistParts}
use Rattle.net_types.specs.Atoms.{IsAtom}
use Rattle.net_types.specs.Merges.{IsMerge}
use Rattle.net_types.specs.Order.{group_of, of_group, LinesNumber}
use Rattle.net_types.specs.WellFormed.{IsNetlist}
use Rattle.blif_order.specs.declared.queues.Queues.{Queues}
use Rattle.blif_order.specs.Orders.{IsLineOrder}
use Rattle.blif_order.specs.Queues.{seen, Takes, IsAllTaken, IsBlocked}
use Rattle.blif_order.specs.Tops.{top_of}
use Rattle.blif_order.proofs.LineNets.{IsPad, in_pad, out_pad}
use Rattle.blif_order.proofs.Moves.{AreAll, CanGoOn, take_input, take_output, take_element, all_taken, pad_numbers}

-- what is left, by its queues
pub record Left (nets : ℕ) (inputs outputs elements : List Atom) (known : ℕ) : Type 0 where
  pub inputs_are : AreAll IsPad inputs
  pub outputs_are : AreAll IsPad outputs
  pub elements_are : AreAll IsAtom elements
  pub can : CanGoOn nets inputs outputs elements known

-- each order of what is left completes what is done
abbrev pub Completes : NetlistParts → List Atom → List Atom → List Atom → ℕ → List Atom → Type 0
Completes n inputs outputs elements known done =
    (pads lines : List Atom) → IsMerge inputs outputs pads → IsMerge pads elements lines → LinesNumber known lines (length n.nets) → IsLineOrder n (done ++ lines)

pub record Goes (n : NetlistParts) (inputs outputs elements : List Atom) (known : ℕ) (done : List Atom) : Type 0 where
  pub left : Left (length n.nets) inputs outputs elements known
  pub whole : Completes n inputs outputs elements known done

abbrev pub GoesOn : NetlistParts → Queues → List Atom → Type 0
GoesOn n q done = Goes n (seen q.inputs.now) (seen q.outputs.now) (seen q.elements.now) q.known done

-- at the beginning

has_each : {X : Type 0} (P : X → Type 0) (xs : List X) → All P xs → (x : X) → Has xs x → P x
has_each P xs all x has =
    let at = at_has xs x has in
    subst P (get_or_from_slice_get xs at.0 x x at.1) (all at.0 x (slice_get_within xs at.0 x at.1))

is_in : (k : AtomKind) → group_of k ≡ 0 → k ≡ InPad
is_in InPad is = refl
is_in OutPad is = absurd (omega (arith, is))
is_in Lut is = absurd (omega (arith, is))
is_in Latch is = absurd (omega (arith, is))
is_in (Cell model) is = absurd (omega (arith, is))

is_out : (k : AtomKind) → group_of k ≡ 1 → k ≡ OutPad
is_out InPad is = absurd (omega (arith, is))
is_out OutPad is = refl
is_out Lut is = absurd (omega (arith, is))
is_out Latch is = absurd (omega (arith, is))
is_out (Cell model) is = absurd (omega (arith, is))

number_is : (a b : ℕ) → (a == b) ≡ true → a ≡ b
number_is a b e = grind (arith, nat_tests)

pub start : (n : NetlistParts) → IsNetlist n → (inputs outputs elements : List Atom) → inputs ≡ of_group 0 n.atoms → outputs ≡ of_group 1 n.atoms → elements ≡ of_group 2 n.atoms →
    Goes n inputs outputs elements 0 []
start n keeps inputs outputs elements ins_are outs_are elems_are = record {
  left = record {
    inputs_are = λ atom has. (let r = grouped 0 inputs ins_are atom has in in_pad atom (is_in atom.kind r.1) r.0);
    outputs_are = λ atom has. (let r = grouped 1 outputs outs_are atom has in out_pad atom (is_out atom.kind r.1) r.0);
    elements_are = λ atom has. (grouped 2 elements elems_are atom has).0;
    can = record {
      pads = keeps.order.pads;
      lines = keeps.order.lines;
      are_pads = rw (ins_are, outs_are) keeps.order.are_pads;
      are_lines = rw elems_are keeps.order.are_lines;
      number = keeps.order.number;
    };
  };
  whole = λ pads lines are_pads are_lines number. record {
    pads = pads;
    are_pads = rw (ins_are, outs_are) at are_pads;
    are_lines = rw elems_are at are_lines;
    number = number;
  };
}
  where
    grouped : (group : ℕ) (atoms : List Atom) → atoms ≡ of_group group n.atoms → (atom : Atom) → Has atoms atom → IsAtom atom × (group_of atom.kind ≡ group)
    grouped group atoms are atom has =
        let r = from_filter (λ (a : Atom). group_of a.kind == group) n.atoms atom (subst (λ (l : List Atom). Has l atom) are has) in
        (has_each IsAtom n.atoms keeps.atoms.each atom r.0, number_is (group_of atom.kind) group r.1)

-- one line more

tail_are : (P : Atom → Type 0) (atoms rest : List Atom) (atom : Atom) → AreAll P atoms → atoms ≡ atom ∷ rest → P atom × AreAll P rest
tail_are P atoms rest atom all is =
    (all atom (subst (λ (l : List Atom). Has l atom) (sym is) (inl refl)), λ a has. all a (subst (λ (l : List Atom). Has l a) (sym is) (inr has)))

longer : (n : NetlistParts) (done : List Atom) (atom : Atom) (lines : List Atom) → IsLineOrder n (done ++ atom ∷ lines) → IsLineOrder n ((done ++ atom ∷ []) ++ lines)
longer n done atom lines whole = subst (λ (l : List Atom). IsLineOrder n l) (sym (append_assoc done (atom ∷ []) lines)) whole

input_taken : (n : NetlistParts) (xs ys zs : List Atom) (k : ℕ) (done : List Atom) (atom : Atom) (rest : List Atom) → Goes n xs ys zs k done → xs ≡ atom ∷ rest → top_of k atom ≤ k + 1 →
    Goes n rest ys zs (top_of k atom) (done ++ atom ∷ [])
input_taken n xs ys zs k done atom rest go is near =
    let first = tail_are IsPad xs rest atom go.left.inputs_are is in
    let numbers = pad_numbers atom k first.0 near in
    record {
      left = record {
        inputs_are = first.1;
        outputs_are = go.left.outputs_are;
        elements_are = go.left.elements_are;
        can = take_input (length n.nets) atom rest ys zs k first.0 (subst (λ (l : List Atom). CanGoOn (length n.nets) l ys zs k) is go.left.can);
      };
      whole = λ pads lines are_pads are_lines number. longer n done atom lines
          (go.whole (atom ∷ pads) (atom ∷ lines) (inl (rest, is, are_pads)) (inl (pads, refl, are_lines))
          (numbers.nets, top_of k atom, numbers.line, numbers.mention, number));
    }

output_taken : (n : NetlistParts) (xs ys zs : List Atom) (k : ℕ) (done : List Atom) (atom : Atom) (rest : List Atom) → Goes n xs ys zs k done → ys ≡ atom ∷ rest → top_of k atom ≤ k + 1 →
    Goes n xs rest zs (top_of k atom) (done ++ atom ∷ [])
output_taken n xs ys zs k done atom rest go is near =
    let first = tail_are IsPad ys rest atom go.left.outputs_are is in
    let numbers = pad_numbers atom k first.0 near in
    record {
      left = record {
        inputs_are = go.left.inputs_are;
        outputs_are = first.1;
        elements_are = go.left.elements_are;
        can = take_output (length n.nets) atom xs rest zs k first.0 (subst (λ (l : List Atom). CanGoOn (length n.nets) xs l zs k) is go.left.can);
      };
      whole = λ pads lines are_pads are_lines number. longer n done atom lines
          (go.whole (atom ∷ pads) (atom ∷ lines) (inr (rest, is, are_pads)) (inl (pads, refl, are_lines))
          (numbers.nets, top_of k atom, numbers.line, numbers.mention, number));
    }

element_taken : (n : NetlistParts) (xs ys zs : List Atom) (k : ℕ) (done : List Atom) (atom : Atom) (rest : List Atom) → Goes n xs ys zs k done → zs ≡ atom ∷ rest →
    IsBlocked xs k → IsBlocked ys k → Goes n xs ys rest (top_of k atom) (done ++ atom ∷ [])
element_taken n xs ys zs k done atom rest go is no_x no_y =
    let first = tail_are IsAtom zs rest atom go.left.elements_are is in
    let can = subst (λ (l : List Atom). CanGoOn (length n.nets) xs ys l k) is go.left.can in
    let taken = take_element (length n.nets) xs ys atom rest can.pads can.lines k go.left.inputs_are go.left.outputs_are first.0 no_x no_y can.are_pads can.are_lines can.number in
    let numbers = taken.numbers in
    record {
      left = record {
        inputs_are = go.left.inputs_are;
        outputs_are = go.left.outputs_are;
        elements_are = first.1;
        can = taken.can;
      };
      whole = λ pads lines are_pads are_lines number. longer n done atom lines
          (go.whole pads (atom ∷ lines) are_pads (inr (rest, is, are_lines))
          (numbers.nets, top_of k atom, numbers.line, numbers.mention, number));
    }

pub step : (n : NetlistParts) (old new : Queues) (atom : Atom) (done : List Atom) → GoesOn n old done → Takes old atom new → GoesOn n new (done ++ atom ∷ [])
step n old new atom done go (inl t) =
    let near : top_of old.known atom ≤ old.known + 1 = omega (arith, t.near, t.known) in
    rw (t.outputs, t.elements, t.known) (input_taken n (seen old.inputs.now) (seen old.outputs.now) (seen old.elements.now) old.known done atom (seen new.inputs.now) go t.first near)
step n old new atom done go (inr (inl t)) =
    let near : top_of old.known atom ≤ old.known + 1 = omega (arith, t.near, t.known) in
    rw (t.inputs, t.elements, t.known) (output_taken n (seen old.inputs.now) (seen old.outputs.now) (seen old.elements.now) old.known done atom (seen new.outputs.now) go t.first near)
step n old new atom done go (inr (inr (blocked, t))) =
    rw (t.inputs, t.outputs, t.known)
    (element_taken n (seen old.inputs.now) (seen old.outputs.now) (seen old.elements.now) old.known done atom (seen new.elements.now) go t.first blocked.inputs blocked.outputs)

-- at the end

pub end : (n : NetlistParts) (q : Queues) (done : List Atom) → GoesOn n q done → IsAllTaken q → IsLineOrder n done
end n q done go all =
    let can = go.left.can in
    let nets = length n.nets in
    let none = all_taken nets (seen q.inputs.now) (seen q.outputs.now) (seen q.elements.now) can.pads can.lines q.known go.left.inputs_are go.left.outputs_are
    all.blocked.inputs all.blocked.outputs all.elements can.are_pads can.are_lines can.number in
    subst (λ (l : List Atom). IsLineOrder n l) (append-nil done)
    (go.whole [] [] (none.0, none.1) (refl, all.elements) none.2)

-- the same where atoms are lent
pub pushed : (n : NetlistParts) (q : Queues) (done : List (Bor Atom)) (atom : Bor Atom) (new : List (Bor Atom)) → new ≡ done ++ atom ∷ [] →
    GoesOn n q (seen done ++ atom.now ∷ []) → GoesOn n q (seen new)
pushed n q done atom new is go =
    let same : seen new ≡ seen done ++ atom.now ∷ [] = ap (λ (l : List (Bor Atom)). seen l) is ∙ map-append (λ (a : Bor Atom). a.now) done (atom ∷ []) in
    subst (λ (l : List Atom). GoesOn n q l) (sym same) go
