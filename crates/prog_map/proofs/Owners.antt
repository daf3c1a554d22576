-- Whose edges lead into a pin: those of its own instance, or of that instance's parent.
use Rattle.std.proofs.Common.{◌≡◌, ◌<◌, ◌⊎◌, inl, inr, ℕ, false, not, eqb, arith, List, [], ◌∷◌, ◌++◌, length, Option, Some, None, refl, sym, ap, ◌∙◌, subst}
use Rattle.std.specs.Prelude.{slice_get, MatchOption}
use Rattle.std.proofs.lemmas.Bool.Decides.{nat_tests}
use Rattle.pb_expand.specs.declared.number.PinIx.{PinIx}
use Rattle.std.proofs.lemmas.Option.{slice_get_within}
use Rattle.arch_types.specs.Address.{Address, Hop}
use Rattle.mode_edges.specs.declared.pin.ChildAt.{ChildAt}
use Rattle.pb_expand.specs.declared.number.Step.{Step}
use Rattle.pb_expand.specs.declared.number.PinAt.{PinAt}
use Rattle.pb_expand.specs.declared.number.Edge.{Edge}
use Rattle.pb_expand.specs.Graph.{Graph, LeadsTo, pin_at}
use Rattle.pb_expand.specs.Expansion.{IsExpansion, IsEdgeOf, owner_address}
use Rattle.pb_expand.proofs.Lists.{has_at, snoc_front}
use Rattle.prog_map.specs.Choices.{Choices, mode_of, pick_of, IsProgOf}
use Rattle.prog_map.specs.Live.{IsLiveAt}
use Rattle.prog_map.specs.Back.{StepsByEdge, StepsBackIn}
use Rattle.prog_map.proofs.Climbs.{some_injective}

-- the instance of number `owner` is the parent of the instance of number n
pub record IsAbove (g : Graph) (owner n : ℕ) : Type 0 where
  pub address : Address
  pub hop : Hop
  pub is_owner : slice_get g.instances owner ≡ Some address
  pub is_child : slice_get g.instances n ≡ Some (address ++ hop ∷ [])

by_owner : (g : Graph) → IsExpansion g → (owner n : ℕ) (address : Address) (mode : ℕ) (child : Option ChildAt) →
    slice_get g.instances owner ≡ Some address → slice_get g.instances n ≡ Some (owner_address address mode child) →
    (owner ≡ n) ⊎ IsAbove g owner n
by_owner g law owner n address mode None is_owner is = inl (law.numbering.once owner n address is_owner is)
by_owner g law owner n address mode (Some c) is_owner is =
    inr (record {
      address = address;
      hop = record { mode = mode; child = c.child; instance = c.instance };
      is_owner = is_owner;
      is_child = is;
    })

pub owner_of_end : (g : Graph) → IsExpansion g → (number : ℕ) (edge : Edge) → slice_get g.edges number ≡ Some edge →
    (at : PinAt) → slice_get g.pins edge.dst.0 ≡ Some at → (edge.owner.0 ≡ at.pb.0) ⊎ IsAbove g edge.owner.0 at.pb.0
owner_of_end g law number edge there at is_at =
    let e : IsEdgeOf g edge = law.has_edges.each edge (has_at g.edges number edge there) in
    let same : pin_at e.is_dst.pb e.dst.port e.dst.bit ≡ at = some_injective (sym e.is_dst.is_pin ∙ is_at) in
    let pb : e.is_dst.pb ≡ at.pb.0 = ap (λ p. p.pb.0) same in
    by_owner g law edge.owner.0 at.pb.0 e.address edge.mode e.dst.owner e.is_owner
    (subst (λ n. slice_get g.instances n ≡ Some (owner_address e.address edge.mode e.dst.owner)) pb e.is_dst.is_instance)

nil_snoc : {X : Type 0} (xs : List X) (x : X) → xs ++ x ∷ [] ≡ [] → ⊥
nil_snoc [] x e = cc
nil_snoc (y ∷ ys) x e = cc

-- the root has no parent
pub root_alone : (g : Graph) (owner n : ℕ) → IsExpansion g → n ≡ 0 → IsAbove g owner n → ⊥
root_alone g owner n law zero above =
    let root : slice_get g.instances n ≡ Some [] =
    ap (λ k. slice_get g.instances k) zero ∙ ap (λ is. slice_get is 0) law.instances in
    nil_snoc above.address above.hop (some_injective (sym above.is_child ∙ root))

-- an instance has one parent
pub parent_is : (g : Graph) (owner n : ℕ) (s : Step) → IsExpansion g → LeadsTo g.instances s n → IsAbove g owner n → owner ≡ s.parent.0
parent_is g owner n s law to above =
    let same : above.address ≡ to.parent = snoc_front _ _ _ _ (some_injective (sym above.is_child ∙ to.is_child)) in
    law.numbering.once owner s.parent.0 to.parent (above.is_owner ∙ ap Some same) to.is_parent

-- where neither the instance nor its parent leads back, nothing does
pub no_step : (g : Graph) (c : Choices) → IsExpansion g → (pin : ℕ) (at : PinAt) → slice_get g.pins pin ≡ Some at →
    ((p : ℕ) → StepsBackIn g c at.pb.0 pin p → ⊥) → ((owner p : ℕ) → IsAbove g owner at.pb.0 → StepsBackIn g c owner pin p → ⊥) →
    (p : ℕ) → StepsByEdge g c pin p → ⊥
no_step g c law pin at is_at own above p back =
    let s : StepsBackIn g c back.owner pin p = back.step in
    let is_end : slice_get g.pins s.edge.dst.0 ≡ Some at = ap (λ k. slice_get g.pins k) s.ends ∙ is_at in
    elim (owner_of_end g law s.number s.edge s.is at is_end) [
      | inl here ↦ own p (subst (λ o. StepsBackIn g c o pin p) (sym s.owned ∙ here) s)
      | inr up ↦ above back.owner p (subst (λ o. IsAbove g o at.pb.0) s.owned up) s
    ]

-- the step that the choices of an instance give
pub step_is : (g : Graph) (c : Choices) → IsProgOf g c → (owner pin mode number : ℕ) (edge : Edge) → Some mode ≡ mode_of c owner →
    Some number ≡ pick_of c pin mode → slice_get g.edges number ≡ Some edge → edge.owner.0 ≡ owner → IsLiveAt g (mode_of c) owner →
    StepsBackIn g c owner pin edge.src.0
step_is g c of owner pin mode number edge chosen taken is owned live =
    let into = of.picks pin mode number (sym taken) in
    let same : into.edge ≡ edge = some_injective (sym into.there ∙ is) in
    let in_mode : edge.mode ≡ mode = ap (λ e. e.mode) (sym same) ∙ into.in_mode in
    record {
      number = number;
      edge = edge;
      is = is;
      owned = owned;
      ends = ap (λ e. e.dst.0) (sym same) ∙ into.ends;
      starts = refl;
      taken = ap (λ m. pick_of c pin m) in_mode ∙ sym taken;
      chosen = sym chosen ∙ ap Some (sym in_mode);
      live = live;
    }

pub pick_inside : (g : Graph) (c : Choices) → IsProgOf g c → (pin mode number : ℕ) → Some number ≡ pick_of c pin mode → number < length g.edges
pick_inside g c of pin mode number taken =
    let into = of.picks pin mode number (sym taken) in slice_get_within g.edges number into.edge into.there

pub same_number : (a b : ℕ) → false ≡ not (eqb a b) → a ≡ b
same_number a b is = grind (arith, nat_tests)

-- what the parent's edges say, where those of the instance itself say nothing
pub by_parent : (g : Graph) (c : Choices) → IsExpansion g → (pin : ℕ) (at : PinAt) (s : Step) → slice_get g.pins pin ≡ Some at → LeadsTo g.instances s at.pb.0 →
    ((p : ℕ) → StepsBackIn g c at.pb.0 pin p → ⊥) → (r : Option PinIx) →
    MatchOption r ((p : ℕ) → StepsBackIn g c s.parent.0 pin p → ⊥) (λ p. StepsBackIn g c s.parent.0 pin p.0) →
    MatchOption r ((p : ℕ) → StepsByEdge g c pin p → ⊥) (λ p. StepsByEdge g c pin p.0)
by_parent g c law pin at s is_at to own None none =
    no_step g c law pin at is_at own
    (λ owner p up step. none p (subst (λ o. StepsBackIn g c o pin p) (parent_is g owner at.pb.0 s law to up) step))
by_parent g c law pin at s is_at to own (Some source) step = record { owner = s.parent.0; step = step }
