-- The nets and atoms of a model keep what a netlist keeps, where what is asked of the whole holds.
use Rattle.std.proofs.Common.{◌≡◌, ◌≤◌, ◌<◌, ◌-◌, ◌^◌, ℕ, List, Option, Some, None, length, slice_get, map, ◌+◌, ◌++◌, sym, subst, arith, length-append}
use Rattle.std.proofs.lemmas.List.{length-map}
use Rattle.std.proofs.lemmas.Option.{slice_get_within}
use Rattle.vtr_base.specs.Lists.{Has, IsFirstPlace}
use Rattle.list_laws.proofs.Places.{element}
use Rattle.list_laws.proofs.Members.{has_at}
use Rattle.net_types.specs.declared.parts.NetlistParts.{NetlistParts}
use Rattle.net_types.specs.Ends.{HasOneMaker}
use Rattle.net_types.specs.WellFormed.{HaveNets, HaveRanks, IsNetlist, count_conns}
use Rattle.net_faults.specs.Drivers.{IsMade, IsFirstUnmade, AreMade}
use Rattle.net_faults.specs.Steps.{AreMakers, IsMakerOf}
use Rattle.blif_parts.specs.declared.parts.ModelParts.{ModelParts}
use Rattle.blif_parts.specs.Atoms.{net_of, atoms_of, input_atom, output_atom, elem_atom}
use Rattle.blif_parts.specs.Facts.{HaveOneMaker}
use Rattle.blif_wholes.specs.Wholes.{IsOfModel}

-- what holds of the nets and atoms of the parts holds of these
pub of_parts : (P : NetlistParts → Type 0) (n : NetlistParts) (m : IsOfModel n) → P (net_of m.parts) → P n
of_parts P n m holds = subst P (sym m.are) holds

pub within : (n : NetlistParts) → IsOfModel n → HaveNets (length n.nets) n.atoms
within n m = of_parts (λ (o : NetlistParts). HaveNets (length o.nets) o.atoms) n m m.of_lines.1.within

pub few_conns : (n : NetlistParts) → IsOfModel n → count_conns n.atoms < 2 ^ 32 - 1
few_conns n m = of_parts (λ (o : NetlistParts). count_conns o.atoms < 2 ^ 32 - 1) n m m.of_lines.1.few_conns

pub one_maker : (n : NetlistParts) → IsOfModel n → HaveOneMaker n.atoms
one_maker n m = of_parts (λ (o : NetlistParts). HaveOneMaker o.atoms) n m m.of_lines.1.one_maker

-- where each net has a maker, the makers of nets are those of all
pub all_made : (n : NetlistParts) (makers : List (Option ℕ)) → AreMakers n.atoms (length n.nets) makers → (Has makers None → ⊥) → AreMade (length n.nets) n.atoms
all_made n makers are none net low =
    let found = element makers net (subst (λ (k : ℕ). net < k) (sym are.long) low) in
    by found.0 found.1 (are.each net found.0 found.1)
  where
    by : (maker : Option ℕ) → slice_get makers net ≡ Some maker → IsMakerOf n.atoms net maker → IsMade n.atoms net
    by None at is = absurd (none (has_at makers net None at))
    by (Some number) at is = (number, is)

-- the first net without a maker
pub first_unmade : (n : NetlistParts) (makers : List (Option ℕ)) (net : ℕ) (name : List ℕ) → AreMakers n.atoms (length n.nets) makers → IsFirstPlace makers None net → slice_get n.nets net ≡ Some name → IsFirstUnmade n.nets n.atoms name
first_unmade n makers net name are first named = record {
  net = net;
  named = named;
  unmade = are.each net None first.there;
  before = λ other less. before other less (element makers other (low other less));
}
  where
    low : (other : ℕ) → other < net → other < length makers
    low other less = let inside = slice_get_within makers net None first.there in omega (arith, less, inside)

    by : (other : ℕ) (maker : Option ℕ) → other < net → slice_get makers other ≡ Some maker → IsMakerOf n.atoms other maker → IsMade n.atoms other
    by other None less at is = absurd (first.first other less at)
    by other (Some number) less at is = (number, is)

    before : (other : ℕ) → other < net → (maker : Option ℕ) × (slice_get makers other ≡ Some maker) → IsMade n.atoms other
    before other less found = by other found.0 less found.1 (are.each other found.0 found.1)

pub made_once : (n : NetlistParts) → IsOfModel n → AreMade (length n.nets) n.atoms → (net : ℕ) → net < length n.nets → HasOneMaker n.atoms net
made_once n m made net low =
    let of = made net low in
    record {
      number = of.0;
      place = of.1.0;
      makes = of.1.1;
      only = λ other at is. one_maker n m net other at of.0 of.1.0 is of.1.1;
    }

pub is_netlist : (n : NetlistParts) → IsOfModel n → length n.atoms ≤ 65536 → AreMade (length n.nets) n.atoms → HaveRanks n.atoms → IsNetlist n
is_netlist n m few made ranks =
    let model = m.of_lines.1 in
    of_parts (λ (o : NetlistParts). length o.atoms ≤ 65536 → ((net : ℕ) → net < length o.nets → HasOneMaker o.atoms net) → HaveRanks o.atoms → IsNetlist o) n m
    (λ low once ranked. record {
      nets = model.nets;
      atoms = record { each = model.each; grouped = model.grouped; once = model.once; few = low; few_conns = model.few_conns };
      named = model.named;
      within = model.within;
      made = once;
      ranks = ranked;
      order = model.order;
    }) few (made_once n m made) ranks

-- how many atoms a model has
pub atoms_count : (p : ModelParts) → length (atoms_of p) ≡ length p.inputs + length p.outputs + length p.elems
atoms_count p =
    let ins = map (input_atom p.nets) p.inputs in
    let outs = map (output_atom p.nets) p.outputs in
    let elems = map elem_atom p.elems in
    omega (arith, length-append (ins ++ outs) elems, length-append ins outs, length-map p.inputs (input_atom p.nets), length-map p.outputs (output_atom p.nets), length-map p.elems elem_atom)
