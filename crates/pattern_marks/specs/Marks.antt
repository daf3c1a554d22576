-- Which edges of a mode a `pack_pattern` of one of its interconnects marks (VTR architecture reference,
-- "Interconnect": pack_pattern).
use Rattle.std.specs.Prelude.{◌↔◌, ℕ, List}
use Rattle.vtr_base.specs.Lists.{Has}
use Rattle.arch_types.specs.declared.block.PbType.{PbType}
use Rattle.arch_types.specs.declared.block.Mode.{Mode}
use Rattle.arch_types.specs.declared.block.Pattern.{Pattern}
use Rattle.mode_edges.specs.PinWords.{ReadsPins}
use Rattle.mode_edges.specs.declared.pin.EdgeEnd.{EdgeEnd}
use Rattle.mode_edges.specs.declared.pin.EdgeEnd.TheVariants.{Source, End}
use Rattle.mode_edges.specs.declared.pin.LocalPin.{LocalPin}

-- the text names a list of pins in that role, among them this one
pub record Holds (block : PbType) (mode : Mode) (role : EdgeEnd) (text : List ℕ) (pin : LocalPin) :
    Type 0 where
  pub pins : List LocalPin
  pub reads : ReadsPins block mode role text pins
  pub has : Has pins pin

-- exactly the pins that the text holds
abbrev pub AreHeld : PbType → Mode → EdgeEnd → List ℕ → List LocalPin → Type 0
AreHeld block mode role text pins = (pin : LocalPin) → Has pins pin ↔ Holds block mode role text pin

-- the pattern's `in_port` holds the source, and its `out_port` the end
abbrev pub Marks : PbType → Mode → Pattern → LocalPin → LocalPin → Type 0
Marks block mode p src dst = Holds block mode Source p.in_port src × Holds block mode End p.out_port dst

-- the pins that a pattern names
pub record NamedPins : Type 0 where
  pub ins : List LocalPin
  pub outs : List LocalPin
