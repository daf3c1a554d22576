-- Sets of pins in which lines of a `fasm_mux` are looked up.
use Rattle.std.specs.Prelude.{◌↔◌, ℕ, List}
use Rattle.vtr_base.specs.Lists.{Has}
use Rattle.arch_types.specs.declared.block.PbType.{PbType}
use Rattle.arch_types.specs.declared.block.Mode.{Mode}
use Rattle.arch_types.specs.declared.block.Inter.{Inter}
use Rattle.mode_edges.specs.PinWords.{ReadsPins}
use Rattle.mode_edges.specs.declared.pin.EdgeEnd.TheVariants.{Source}
use Rattle.mode_edges.specs.declared.pin.LocalPin.{LocalPin}

-- the interconnect's inputs, and none where its words name no pins
abbrev pub AreInputs : PbType → Mode → Inter → List LocalPin → Type 0
AreInputs block mode inter set =
    (pin : LocalPin) → Has set pin ↔ ((inputs : List LocalPin) × ReadsPins block mode Source inter.input inputs × Has inputs pin)

-- the lists have the same pins
abbrev pub HaveSame : List LocalPin → List LocalPin → Type 0
HaveSame set pins = (pin : LocalPin) → Has set pin ↔ Has pins pin
