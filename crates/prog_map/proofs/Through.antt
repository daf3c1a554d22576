-- One step back through a LUT that passes an input on.
use Rattle.std.proofs.Common.{◌≡◌, ◌<◌, inl, inr, ℕ, true, Option, Some, None, length, sym, ap, ◌∙◌, subst, arith}
use Rattle.std.specs.Prelude.{slice_get, MatchOption, IfSome}
use Rattle.std.proofs.lemmas.Option.{slice_get_within}
use Rattle.arch_types.specs.declared.block.Port.{Port}
use Rattle.arch_types.specs.declared.block.Side.TheVariants.{Input}
use Rattle.pb_expand.specs.declared.number.PinIx.{PinIx}
use Rattle.pb_expand.specs.declared.number.PinAt.{PinAt}
use Rattle.pb_expand.specs.Graph.{Graph, pin_at}
use Rattle.pb_expand.specs.Expansion.{IsExpansion, IsPin}
use Rattle.pb_expand.proofs.Lists.{has_at}
use Rattle.prog_map.specs.declared.choice.LutChoice.TheVariants.{Wire}
use Rattle.prog_map.specs.Leaves.{AreInputs, sides_of, IsOutput}
use Rattle.prog_map.specs.Choices.{Choices, is_used, lut_of, mode_of}
use Rattle.prog_map.specs.Live.{IsLiveAt}
use Rattle.prog_map.specs.Back.{StepsThrough, StepsByEdge, StepsBack}
use Rattle.prog_map.proofs.Climbs.{some_injective}

-- a LUT has one input port, and one number of inputs
pub one_inputs : (g : Graph) (n p w q v : ℕ) → AreInputs g n p w → AreInputs g n q v → (p ≡ q) × (w ≡ v)
one_inputs g n p w q v a b =
    let ports : a.ports ≡ b.ports = some_injective (sym a.are ∙ b.are) in
    let there : slice_get (sides_of b.ports) p ≡ Some Input = ap (λ ps. slice_get (sides_of ps) p) (sym ports) ∙ a.first.there in
    let other : slice_get (sides_of a.ports) q ≡ Some Input = ap (λ ps. slice_get (sides_of ps) q) ports ∙ b.first.there in
    let up : q < p → ⊥ = λ below. a.first.first q below other in
    let down : p < q → ⊥ = λ below. b.first.first p below there in
    let same : p ≡ q = omega (arith, up, down) in
    let port : a.port ≡ b.port =
    some_injective (sym a.there ∙ ap (λ ps. slice_get ps p) ports ∙ ap (λ k. slice_get b.ports k) same ∙ b.there) in
    (same, a.wide ∙ ap (λ (x : Port). x.width) port ∙ sym b.wide)

pub wire_same : (i j : ℕ) → Some (Wire i) ≡ Some (Wire j) → i ≡ j
wire_same i j e = cc

pub no_inputs : (g : Graph) (c : Choices) (pin : ℕ) (at : PinAt) → slice_get g.pins pin ≡ Some at → ((port width : ℕ) → AreInputs g at.pb.0 port width → ⊥) →
    (p : ℕ) → StepsThrough g c pin p → ⊥
no_inputs g c pin at is none p s =
    let same : s.at ≡ at = some_injective (sym s.is ∙ is) in
    none s.port s.width (subst (λ (x : PinAt). AreInputs g x.pb.0 s.port s.width) same s.inputs)

-- the step that a LUT gives, where it has that input
pub through_is : (g : Graph) (c : Choices) → IsExpansion g → (pin : ℕ) (at : PinAt) → slice_get g.pins pin ≡ Some at → IsOutput g at →
    (port width input : ℕ) → AreInputs g at.pb.0 port width → lut_of c at.pb.0 ≡ Some (Wire input) → is_used c at.pb.0 ≡ true → IsLiveAt g (mode_of c) at.pb.0 →
    (r : Option PinIx) → MatchOption r (IsPin g at.pb.0 port input → ⊥) (λ n. slice_get g.pins n.0 ≡ Some (pin_at at.pb.0 port input)) →
    MatchOption r ((p : ℕ) → StepsThrough g c pin p → ⊥) (λ p. StepsThrough g c pin p.0)
through_is g c law pin at is output port width input inputs holds used live None none =
    λ p s.
    let same : s.at ≡ at = some_injective (sym s.is ∙ is) in
    let pb : s.at.pb.0 ≡ at.pb.0 = ap (λ (x : PinAt). x.pb.0) same in
    let ports : s.port ≡ port = (one_inputs g at.pb.0 s.port s.width port width (subst (λ n. AreInputs g n s.port s.width) pb s.inputs) inputs).0 in
    let passes : s.input ≡ input = wire_same s.input input (sym s.holds ∙ ap (λ n. lut_of c n) pb ∙ holds) in
    let leads : slice_get g.pins p ≡ Some (pin_at at.pb.0 port input) =
    s.leads ∙ ap (λ n. Some (pin_at n s.port s.input)) pb ∙ ap (λ k. Some (pin_at at.pb.0 k s.input)) ports ∙ ap (λ i. Some (pin_at at.pb.0 port i)) passes in
    none ((law.has_pins.exact at.pb.0 port input).0 (has_at g.pins p (pin_at at.pb.0 port input) leads))
through_is g c law pin at is output port width input inputs holds used live (Some source) there = record {
  at = at;
  is = is;
  output = output;
  port = port;
  width = width;
  inputs = inputs;
  input = input;
  holds = holds;
  used = used;
  live = live;
  leads = there;
}

pub through_inside : (g : Graph) (pb port input : ℕ) (r : Option PinIx) →
    MatchOption r (IsPin g pb port input → ⊥) (λ n. slice_get g.pins n.0 ≡ Some (pin_at pb port input)) → IfSome r (λ p. p.0 < length g.pins)
through_inside g pb port input None none = tt
through_inside g pb port input (Some source) there = slice_get_within g.pins source.0 (pin_at pb port input) there

-- a step by an edge or through a LUT
pub either_step : (g : Graph) (c : Choices) (pin : ℕ) → ((p : ℕ) → StepsByEdge g c pin p → ⊥) → (r : Option PinIx) →
    MatchOption r ((p : ℕ) → StepsThrough g c pin p → ⊥) (λ p. StepsThrough g c pin p.0) →
    MatchOption r ((p : ℕ) → StepsBack g c pin p → ⊥) (λ p. StepsBack g c pin p.0)
either_step g c pin by_edge None through = λ p step. elim step [ inl edge ↦ by_edge p edge | inr lut ↦ through p lut ]
either_step g c pin by_edge (Some source) step = inr step
