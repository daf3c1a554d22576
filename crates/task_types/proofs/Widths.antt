-- The first input port among ports that were looked at one by one.
use Rattle.std.proofs.Common.{◌≡◌, ℕ, zero, suc, Bool, true, false, List, [], ◌∷◌, Some, refl, ap, ◌∙◌, if◌then◌else◌}
use Rattle.std.specs.Prelude.{slice_get, take}
use Rattle.arch_types.specs.declared.block.Port.{Port}
use Rattle.arch_types.specs.declared.block.Side.TheVariants.{Input}
use Rattle.arch_types.specs.Blocks.{is_on, ports_on}
use Rattle.task_types.specs.Options.{first_width}

-- none before, and this one is on the side
pub width_here : (ports : List Port) (k : ℕ) (port : Port) → ports_on Input (take k ports) ≡ [] → slice_get ports k ≡ Some port → port.side ≡ Input →
    first_width (ports_on Input ports) ≡ port.width
width_here [] k port none is side = cc
width_here (p ∷ ports) zero port none is side =
    let same : p ≡ port = cc is in
    ap (λ x. first_width (if is_on Input x then p ∷ ports_on Input ports else ports_on Input ports)) (ap (λ (x : Port). x.side) same ∙ side) ∙ ap (λ (x : Port). x.width) same
width_here (p ∷ ports) (suc k) port none is side = by (is_on Input p.side) refl none (λ rest. width_here ports k port rest is side)
  where
    by : (b : Bool) → is_on Input p.side ≡ b → (if b then p ∷ ports_on Input (take k ports) else ports_on Input (take k ports)) ≡ [] →
        (ports_on Input (take k ports) ≡ [] → first_width (ports_on Input ports) ≡ port.width) →
        first_width (if b then p ∷ ports_on Input ports else ports_on Input ports) ≡ port.width
    by true e n rest = cc
    by false e n rest = rest n
