-- A LUT that can pass an input on reads through its first input port.
use Rattle.std.proofs.Common.{◌≡◌, ◌<◌, inl, inr, ℕ, zero, suc, true, false, List, [], ◌∷◌, Option, Some, None, refl, ap, ◌∙◌, arith, if◌then◌else◌}
use Rattle.std.specs.Prelude.{slice_get}
use Rattle.std.specs.Option.{option_map, option_map_or}
use Rattle.std.proofs.lemmas.Bool.{cases_Bool}
use Rattle.std.proofs.lemmas.Option.{slice_get_within}
use Rattle.vtr_base.specs.Lists.{IsFirstPlace}
use Rattle.arch_types.specs.declared.block.PbType.{PbType}
use Rattle.arch_types.specs.declared.block.Port.{Port}
use Rattle.arch_types.specs.declared.block.AtomKind.TheVariants.{InPad, OutPad, Lut, Latch, Cell}
use Rattle.arch_types.specs.declared.block.Side.{Side}
use Rattle.arch_types.specs.declared.block.Side.TheVariants.{Input, Output, Clock}
use Rattle.arch_types.specs.Blocks.{is_on, ports_on}
use Rattle.pb_expand.specs.declared.number.PbKind.{PbKind}
use Rattle.pb_expand.specs.declared.number.PbKind.TheVariants.{Leaf, Modes}
use Rattle.pb_expand.specs.Graph.{Graph, block_at, ports_of}
use Rattle.pb_expand.specs.Kept.{IsKept}
use Rattle.prog_map.specs.declared.choice.LutChoice.TheVariants.{Wire}
use Rattle.prog_map.specs.Choices.{IsLutChoice}
use Rattle.prog_map.specs.Leaves.{kind_at, sides_of}
use Rattle.task_types.specs.Options.{first_width, wires_of, wires_at}

-- the first input port
record FirstIn (ports : List Port) : Type 0 where
  pub place : ℕ
  pub port : Port
  pub there : slice_get ports place ≡ Some port
  pub first : IsFirstPlace (sides_of ports) Input place
  pub wide : first_width (ports_on Input ports) ≡ port.width

on_input : (side : Side) → is_on Input side ≡ true → side ≡ Input
on_input Input on = refl
on_input Output on = cc
on_input Clock on = cc

off_input : (side : Side) → is_on Input side ≡ false → Some side ≡ Some Input → ⊥
off_input Input off same = cc
off_input Output off same = cc
off_input Clock off same = cc

first_in : (ports : List Port) → 0 < first_width (ports_on Input ports) → FirstIn ports
first_in [] some = absurd (omega (arith, some))
first_in (p ∷ ports) some = elim (cases_Bool (is_on Input p.side)) [
  | inl on ↦ record {
    place = 0;
    port = p;
    there = refl;
    first = record { there = ap (λ x. Some x) (on_input p.side on); first = λ k less at. absurd (omega (arith, less)) };
    wide = ap (λ b. first_width (if b then p ∷ ports_on Input ports else ports_on Input ports)) on;
  }
  | inr off ↦ (
      let width : first_width (ports_on Input (p ∷ ports)) ≡ first_width (ports_on Input ports) = ap (λ b. first_width (if b then p ∷ ports_on Input ports else ports_on Input ports)) off in
      let r = first_in ports (omega (arith, some, width)) in
      record {
        place = suc r.place;
        port = r.port;
        there = r.there;
        first = record { there = r.first.there; first = later p ports r.place r.first off };
        wide = width ∙ r.wide;
      })
]
  where
    later : (p : Port) (ports : List Port) (place : ℕ) → IsFirstPlace (sides_of ports) Input place → is_on Input p.side ≡ false → (k : ℕ) → k < suc place → slice_get (sides_of (p ∷ ports)) k ≡ Some Input → ⊥
    later p ports place first off zero less at = off_input p.side off at
    later p ports place first off (suc k) less at = first.first k (omega (arith, less)) at

-- an instance that can pass an input on is a LUT
is_lut : (kind : Option PbKind) (ports : List Port) → 0 < wires_of kind ports → (kind ≡ Some (Leaf Lut)) × (0 < first_width (ports_on Input ports))
is_lut None ports some = absurd (omega (arith, some))
is_lut (Some (Modes count)) ports some = absurd (omega (arith, some))
is_lut (Some (Leaf Lut)) ports some = (refl, some)
is_lut (Some (Leaf InPad)) ports some = absurd (omega (arith, some))
is_lut (Some (Leaf OutPad)) ports some = absurd (omega (arith, some))
is_lut (Some (Leaf Latch)) ports some = absurd (omega (arith, some))
is_lut (Some (Leaf (Cell model))) ports some = absurd (omega (arith, some))

pub wire_fits : (g : Graph) (leaf input : ℕ) → IsKept g → input < wires_at g leaf → IsLutChoice g leaf (Wire input)
wire_fits g leaf input kept less = by (block_at g leaf) refl
  where
    lut : (kind_at g leaf ≡ Some (Leaf Lut)) × (0 < first_width (ports_on Input (ports_of g leaf)))
    lut = is_lut (kind_at g leaf) (ports_of g leaf) (omega (arith, less))

    by : (o : Option PbType) → block_at g leaf ≡ o → IsLutChoice g leaf (Wire input)
    by None is =
        let none : ports_of g leaf ≡ [] = ap (λ o. option_map_or (λ (block : PbType). block.ports) o []) is in
        absurd (omega (arith, lut.1, ap (λ ports. first_width (ports_on Input ports)) none))
    by (Some block) is =
        let ports : ports_of g leaf ≡ block.ports = ap (λ o. option_map_or (λ (block : PbType). block.ports) o []) is in
        let wide : first_width (ports_on Input (ports_of g leaf)) ≡ first_width (ports_on Input block.ports) = ap (λ ports. first_width (ports_on Input ports)) ports in
        let r = first_in block.ports (omega (arith, lut.1, wide)) in
        let wires : wires_at g leaf ≡ first_width (ports_on Input (ports_of g leaf)) = ap (λ k. wires_of k (ports_of g leaf)) lut.0 in
        let few = kept.few_ports leaf block is in
        let inside = slice_get_within block.ports r.place r.port r.there in
        record {
          port = r.place;
          width = r.port.width;
          inputs = record {
            lut = lut.0;
            ports = block.ports;
            are = ap (λ o. option_map (λ (block : PbType). block.ports) o) is;
            first = r.first;
            port = r.port;
            there = r.there;
            wide = refl;
            counted = omega (arith, few, inside);
          };
          fits = omega (arith, less, wires, wide, r.wide);
        }
