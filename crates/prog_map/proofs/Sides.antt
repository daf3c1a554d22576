-- The first input port among ports, and the inputs of a LUT.
use Rattle.std.proofs.Common.{◌≡◌, ◌<◌, ◌≤◌, ◌+◌, ℕ, zero, suc, Bool, true, false, List, [], ◌∷◌, length, get_or, Some, sym, ap, ◌∙◌, arith}
use Rattle.std.specs.Prelude.{slice_get, IsTrue}
use Rattle.std.proofs.lemmas.Option.{slice_get-get_or}
use Rattle.arch_types.specs.declared.block.Port.{Port}
use Rattle.arch_types.specs.declared.block.Side.TheVariants.{Input}
use Rattle.prog_map.specs.Leaves.{sides_of}
use Rattle.prog_map.proofs.Climbs.{some_injective}

abbrev pub NoInputBefore : List Port → ℕ → Type 0
NoInputBefore ports count = (j : ℕ) → j < count → slice_get (sides_of ports) j ≡ Some Input → ⊥

pub side_at : (ports : List Port) (k : ℕ) (port : Port) → slice_get ports k ≡ Some port → slice_get (sides_of ports) k ≡ Some port.side
side_at [] k port is = cc
side_at (p ∷ ports) zero port is = ap (λ (q : Port). Some q.side) (some_injective is)
side_at (p ∷ ports) (suc k) port is = side_at ports k port is

pub no_more_input : (ports : List Port) (count : ℕ) (port : Port) → count < length ports → port ≡ get_or ports count port → NoInputBefore ports count →
    (port.side ≡ Input → ⊥) → NoInputBefore ports (count + 1)
no_more_input ports count port inside read before other j below at_j =
    before j (omega (arith, below, not_here)) at_j
  where
    here : slice_get (sides_of ports) count ≡ Some port.side
    here = side_at ports count port (slice_get-get_or ports count port inside ∙ ap Some (sym read))

    not_here : j ≡ count → ⊥
    not_here same = other (some_injective (sym here ∙ ap (λ k. slice_get (sides_of ports) k) (sym same) ∙ at_j))

pub no_input_at_all : (ports : List Port) (count : ℕ) → length ports ≤ count → NoInputBefore ports count → (place : ℕ) → slice_get (sides_of ports) place ≡ Some Input → ⊥
no_input_at_all ports count all none place at_place =
    let inside = within ports place at_place in none place (omega (arith, inside, all)) at_place
  where
    within : (ps : List Port) (k : ℕ) → slice_get (sides_of ps) k ≡ Some Input → k < length ps
    within [] k is = cc
    within (p ∷ ps) zero is = omega arith
    within (p ∷ ps) (suc k) is = let rest = within ps k is in omega (arith, rest)

pub untrue : (b : Bool) → b ≡ false → IsTrue b → ⊥
untrue true fails holds = cc
untrue false fails holds = cc
