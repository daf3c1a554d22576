-- Small facts that the law rests on: of graphs, and of choices in options.
use Rattle.arch_types.specs.declared.block.Kind.TheViews.{the_lemmas}
use Rattle.std.proofs.Common.{◌≡◌, ◌<◌, ◌+◌, ℕ, zero, suc, List, [], ◌∷◌, Option, Some, None, true, false, length, refl, sym, ap, ◌∙◌, subst, arith, rules, if◌then◌else◌}
use Rattle.std.specs.Prelude.{slice_get, IsSome}
use Rattle.std.specs.Option.{option_map, option_and_then, option_map_or}
use Rattle.std.proofs.lemmas.Option.{slice_get_within}
use Rattle.vtr_base.specs.Lists.{up_from, IsFirstPlace}
use Rattle.list_laws.proofs.Places.{element}
use Rattle.arch_types.specs.declared.block.PbType.{PbType}
use Rattle.arch_types.specs.declared.block.Port.{Port}
use Rattle.arch_types.specs.declared.block.Mode.{Mode}
use Rattle.arch_types.specs.declared.block.Kind.{Kind, out-Kind, Modes'}
use Rattle.arch_types.specs.declared.block.Side.{Side}
use Rattle.arch_types.specs.declared.block.Side.TheVariants.{Input, Output, Clock}
use Rattle.arch_types.specs.Blocks.{is_on, ports_on}
use Rattle.arch_types.specs.Tree.{modes_of}
use Rattle.pb_expand.specs.declared.number.EdgeIx.{EdgeIx}
use Rattle.pb_expand.specs.declared.number.PinAt.{PinAt}
use Rattle.pb_expand.specs.Graph.{Graph, block_at, kind_of, ports_of, edge_ix}
use Rattle.pb_expand.specs.Kept.{IsOn}
use Rattle.prog_map.specs.declared.choice.LutChoice.TheVariants.{Wire}
use Rattle.prog_map.specs.Choices.{IsModeOf}
use Rattle.prog_map.specs.Leaves.{kind_at, sides_of, AreInputs, IsOutput, IsLeaf}
use Rattle.prog_map.specs.Order.{count_of}
use Rattle.task_types.specs.Options.{first_width, wires_of, wires_at}

pub some_injective : {X : Type 0} {x y : X} → Some x ≡ Some y → x ≡ y
some_injective e = cc

pub none_some : {X : Type 0} {x : X} → None ≡ Some x → ⊥
none_some e = cc

pub false_true : false ≡ true → ⊥
false_true e = cc

pub wire_same : (i j : ℕ) → Some (Wire i) ≡ Some (Wire j) → i ≡ j
wire_same i j e = cc

pub edge_known : (o : Option EdgeIx) (number : ℕ) → option_map (λ (e : EdgeIx). e.0) o ≡ Some number → o ≡ Some (edge_ix number)
edge_known None number is = cc
edge_known (Some e) number is = ap (λ k. Some (edge_ix k)) (some_injective is)

pub up_length : (n k : ℕ) → length (up_from n k) ≡ k
up_length n zero = refl
up_length n (suc k) = ap suc (up_length (n + 1) k)

-- modes

count_is : (k : Kind) → count_of (Some (kind_of k)) ≡ length (modes_of k)
unfolding out-Kind denote.Hole.Carrier.out
count_is (Modes' n modes) = search (rules, the_lemmas)
count_is _ = refl

pub mode_counted : (g : Graph) (pb mode : ℕ) → IsModeOf g pb mode → mode < count_of (kind_at g pb)
mode_counted g pb mode some = by (block_at g pb) some
  where
    within : (modes : List Mode) → IsSome (slice_get modes mode) → mode < length modes
    within modes is = go (slice_get modes mode) refl is
      where
        go : (o : Option Mode) → slice_get modes mode ≡ o → IsSome o → mode < length modes
        go None e h = cc
        go (Some m) e h = slice_get_within modes mode m e

    by : (o : Option PbType) → IsSome (option_and_then (λ (block : PbType). slice_get (modes_of block.kind) mode) o) →
        mode < count_of (option_map (λ (block : PbType). kind_of block.kind) o)
    by None h = cc
    by (Some block) h = omega (arith, within (modes_of block.kind) h, count_is block.kind)

pub mode_there : (g : Graph) (pb mode : ℕ) → mode < count_of (kind_at g pb) → IsModeOf g pb mode
mode_there g pb mode inside = by (block_at g pb) inside
  where
    by : (o : Option PbType) → mode < count_of (option_map (λ (block : PbType). kind_of block.kind) o) → IsSome (option_and_then (λ (block : PbType). slice_get (modes_of block.kind) mode) o)
    by None h = absurd (omega (arith, h))
    by (Some block) h =
        let inside' : mode < length (modes_of block.kind) = omega (arith, h, count_is block.kind) in
        let e = element (modes_of block.kind) mode inside' in subst (λ o. IsSome o) (sym e.1) refl

pub leaf_modes : (g : Graph) (pb mode : ℕ) → IsLeaf g pb → IsModeOf g pb mode → ⊥
leaf_modes g pb mode leaf some =
    let inside = mode_counted g pb mode some in
    let none : count_of (kind_at g pb) ≡ 0 = ap count_of leaf.is in omega (arith, inside, none)

-- sides

pub on_output : (g : Graph) (pin : PinAt) → IsOutput g pin → IsOn g pin Output
on_output g pin output = by (block_at g pin.pb.0) refl output.is
  where
    by : (o : Option PbType) → block_at g pin.pb.0 ≡ o → option_and_then (λ (b : PbType). slice_get b.ports pin.port) o ≡ Some output.port → IsOn g pin Output
    by None e is = absurd (cc)
    by (Some block) e is = record { block = block; is_block = e; port = output.port; is_port = is; on = output.side }

pub from_on : (g : Graph) (pin : PinAt) → IsOn g pin Output → IsOutput g pin
from_on g pin on = record {
  port = on.port;
  is = ap (λ o. option_and_then (λ (b : PbType). slice_get b.ports pin.port) o) on.is_block ∙ on.is_port;
  side = on.on;
}

-- inputs of a LUT

not_on : (x : Side) → (x ≡ Input → ⊥) → is_on Input x ≡ false
not_on Input other = absurd (other refl)
not_on Output other = refl
not_on Clock other = refl

first_is : (ports : List Port) (place : ℕ) (port : Port) → IsFirstPlace (sides_of ports) Input place → slice_get ports place ≡ Some port →
    first_width (ports_on Input ports) ≡ port.width
first_is [] place port first is = cc
first_is (p ∷ ports) zero port first is =
    let side : p.side ≡ Input = some_injective first.there in
    ap (λ x. first_width (if is_on Input x then p ∷ ports_on Input ports else ports_on Input ports)) side ∙ ap (λ (x : Port). x.width) (some_injective is)
first_is (p ∷ ports) (suc k) port first is =
    let other : is_on Input p.side ≡ false = not_on p.side (λ e. first.first 0 (omega arith) (ap (λ x. Some x) e)) in
    ap (λ b. first_width (if b then p ∷ ports_on Input ports else ports_on Input ports)) other
    ∙ first_is ports k port (record { there = first.there; first = λ j below at. first.first (suc j) (omega (arith, below)) at }) is

pub wires_are : (g : Graph) (leaf port width : ℕ) → AreInputs g leaf port width → wires_at g leaf ≡ width
wires_are g leaf place width inputs =
    ap (λ k. wires_of k (ports_of g leaf)) inputs.lut ∙ ap (λ ports. first_width (ports_on Input ports)) (ports_are (block_at g leaf) inputs.ports inputs.are)
    ∙ first_is inputs.ports place inputs.port inputs.first inputs.there ∙ sym inputs.wide
  where
    ports_are : (o : Option PbType) (ports : List Port) → option_map (λ (block : PbType). block.ports) o ≡ Some ports → option_map_or (λ (block : PbType). block.ports) o [] ≡ ports
    ports_are None ports e = cc
    ports_are (Some block) ports e = some_injective e
