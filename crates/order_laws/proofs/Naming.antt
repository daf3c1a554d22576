-- Lines are named by their connections, boxes without outputs by the boxes before them.
use Rattle.std.proofs.Common.{◌≡◌, ◌==◌, ◌+◌, ◌⊎◌, inl, inr, ℕ, zero, suc, Bool, true, false, cond, if◌then◌else◌, List, [], ◌∷◌, Some, filter, take, refl, sym, ap, ◌∙◌, subst, arith}
use Rattle.std.specs.Prelude.{slice_get}
use Rattle.std.proofs.lemmas.Bool.Decides.{nat_tests}
use Rattle.std.proofs.lemmas.List.Sums.{sum_by-cons}
use Rattle.vtr_base.specs.Lists.{Has}
use Rattle.list_laws.proofs.Members.{at_has}
use Rattle.arch_types.specs.declared.block.AtomKind.{AtomKind}
use Rattle.arch_types.specs.declared.block.AtomKind.TheVariants.{InPad, OutPad, Lut, Latch, Cell}
use Rattle.net_types.specs.declared.atom.Atom.{Atom}
use Rattle.net_types.specs.declared.parts.NetlistParts.{NetlistParts}
use Rattle.net_types.specs.Atoms.{is_box}
use Rattle.net_types.specs.Names.{IsBoxName, FitsName, AreNamed, boxes_before}
use Rattle.net_types.specs.Order.{group_of, of_group}
use Rattle.blif_order.specs.Orders.{IsLineOrder}
use Rattle.order_laws.specs.Kept.{counts, NamedFrom}
use Rattle.order_laws.proofs.Merging.{filter_left, filter_right}
use Rattle.order_laws.proofs.Grouping.{filter_none, filter_through}

-- boxes alone
abbrev NamedBoxes : List (List ℕ) → ℕ → List Atom → Type 0
NamedBoxes nets boxes [] = Unit {0}
NamedBoxes nets boxes (a ∷ atoms) = FitsName nets boxes a.kind a × NamedBoxes nets (boxes + 1) atoms

abbrev pub boxed : Atom → Bool
boxed a = is_box a.kind

-- from places to one behind the other

pub named_from : (nets : List (List ℕ)) (boxes : ℕ) (atoms : List Atom) →
    ((number : ℕ) (a : Atom) → slice_get atoms number ≡ Some a → FitsName nets (boxes + boxes_before atoms number) a.kind a) → NamedFrom nets boxes atoms
named_from nets boxes [] named = tt
named_from nets boxes (a ∷ atoms) named =
    let none : boxes + boxes_before (a ∷ atoms) 0 ≡ boxes = omega arith in (
      subst (λ n. FitsName nets n a.kind a) none (named 0 a refl),
      named_from nets (boxes + counts a) atoms (λ number b at.
          let count : boxes_before (a ∷ atoms) (suc number) ≡ counts a + boxes_before atoms number = sum_by-cons (λ (x : Atom). cond (is_box x.kind) 1 0) a (take number atoms) in
          let same : boxes + boxes_before (a ∷ atoms) (suc number) ≡ (boxes + counts a) + boxes_before atoms number = omega (arith, count) in
          subst (λ n. FitsName nets n b.kind b) same (named (suc number) b at)),
    )

boxes_from : (nets : List (List ℕ)) (boxes : ℕ) (atoms : List Atom) → NamedFrom nets boxes atoms → NamedBoxes nets boxes (filter boxed atoms)
boxes_from nets boxes [] named = tt
boxes_from nets boxes (a ∷ atoms) named = by (boxed a) (boxes_from nets (boxes + counts a) atoms named.1)
  where
    by : (b : Bool) → NamedBoxes nets (boxes + (if b then 1 else 0)) (filter boxed atoms) → NamedBoxes nets boxes (if b then a ∷ filter boxed atoms else filter boxed atoms)
    by true rest = (named.0, rest)
    by false rest = let same : boxes + 0 ≡ boxes = omega arith in subst (λ n. NamedBoxes nets n (filter boxed atoms)) same rest

-- other atoms have their names whatever stands before them
abbrev IsNamedAnywhere : List (List ℕ) → Atom → Type 0
IsNamedAnywhere nets a = boxed a ≡ false → (boxes : ℕ) → FitsName nets boxes a.kind a

anywhere : (nets : List (List ℕ)) (here : ℕ) (a : Atom) (k : AtomKind) → FitsName nets here k a → is_box k ≡ false → (boxes : ℕ) → FitsName nets boxes k a
anywhere nets here a InPad named other boxes = named
anywhere nets here a OutPad named other boxes = named
anywhere nets here a Lut named other boxes = named
anywhere nets here a Latch named other boxes = named
anywhere nets here a (Cell number) named other boxes = absurd (let bad : ⊥ = cc other in bad)

to_named : (nets : List (List ℕ)) (boxes : ℕ) (lines : List Atom) → ((a : Atom) → Has lines a → IsNamedAnywhere nets a) → NamedBoxes nets boxes (filter boxed lines) → NamedFrom nets boxes lines
to_named nets boxes [] others named = tt
to_named nets boxes (a ∷ lines) others named = by (boxed a) refl named (λ boxes' rest. to_named nets boxes' lines (λ b has. others b (inr has)) rest)
  where
    by : (b : Bool) → boxed a ≡ b → NamedBoxes nets boxes (if b then a ∷ filter boxed lines else filter boxed lines) →
        ((boxes' : ℕ) → NamedBoxes nets boxes' (filter boxed lines) → NamedFrom nets boxes' lines) → NamedFrom nets boxes (a ∷ lines)
    by true is here more =
        let one : boxes + 1 ≡ boxes + counts a = ap (λ (t : Bool). boxes + (if t then 1 else 0)) (sym is) in
        (here.0, subst (λ n. NamedFrom nets n lines) one (more (boxes + 1) here.1))
    by false is here more =
        let none : counts a ≡ 0 = ap (λ (t : Bool). if t then 1 else 0) is in
        let same : boxes ≡ boxes + counts a = omega (arith, none) in
        (others a (inl refl) is boxes, subst (λ n. NamedFrom nets n lines) same (more boxes here))

-- boxes stand in the third group

not_first : (k : AtomKind) → (group_of k == 0) ≡ true → is_box k ≡ false
not_first InPad is = refl
not_first OutPad is = refl
not_first Lut is = refl
not_first Latch is = refl
not_first (Cell number) is = absurd (let bad : ⊥ = cc is in bad)

not_second : (k : AtomKind) → (group_of k == 1) ≡ true → is_box k ≡ false
not_second InPad is = refl
not_second OutPad is = refl
not_second Lut is = refl
not_second Latch is = refl
not_second (Cell number) is = absurd (let bad : ⊥ = cc is in bad)

not_third : (k : AtomKind) → (group_of k == 2) ≡ false → is_box k ≡ false
not_third InPad is = refl
not_third OutPad is = refl
not_third Lut is = refl
not_third Latch is = refl
not_third (Cell number) is = absurd (let bad : ⊥ = cc is in bad)

same_boxes : (n : NetlistParts) (lines : List Atom) → IsLineOrder n lines → filter boxed lines ≡ filter boxed n.atoms
same_boxes n lines order =
    let ins = of_group 0 n.atoms in
    let outs = of_group 1 n.atoms in
    let no_outs : filter boxed outs ≡ [] = filter_none boxed (λ (a : Atom). group_of a.kind == 1) n.atoms (λ a is. not_second a.kind is) in
    let no_ins : filter boxed ins ≡ [] = filter_none boxed (λ (a : Atom). group_of a.kind == 0) n.atoms (λ a is. not_first a.kind is) in
    let no_pads : filter boxed order.pads ≡ [] = filter_left boxed ins outs order.pads order.are_pads no_outs ∙ no_ins in
    filter_right boxed order.pads (of_group 2 n.atoms) lines order.are_lines no_pads ∙ filter_through boxed (λ (a : Atom). group_of a.kind == 2) n.atoms (λ a is. not_third a.kind is)

pub lines_named : (n : NetlistParts) (lines : List Atom) → IsLineOrder n lines → AreNamed n.nets n.atoms → ((a : Atom) → Has lines a → Has n.atoms a) → NamedFrom n.nets 0 lines
lines_named n lines order named there =
    let all = named_from n.nets 0 n.atoms (λ number a at.
    let same : boxes_before n.atoms number ≡ 0 + boxes_before n.atoms number = omega arith in
    subst (λ b. FitsName n.nets b a.kind a) same (named number a at)) in
    to_named n.nets 0 lines (λ a has other boxes.
    let at = at_has n.atoms a (there a has) in
    anywhere n.nets (boxes_before n.atoms at.0) a a.kind (named at.0 a at.1) other boxes)
    (subst (NamedBoxes n.nets 0) (sym (same_boxes n lines order)) (boxes_from n.nets 0 n.atoms all))
