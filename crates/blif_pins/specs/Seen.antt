-- What clauses see of a pin of a box.
use Rattle.std.specs.Prelude.{◌↔◌, List, IsTrue}
use Rattle.vtr_base.specs.Lists.{Has}
use Rattle.arch_types.specs.declared.arch.CellModel.{CellModel}
use Rattle.blif_boxes.specs.Pins.{PinSaid}
use Rattle.blif_boxes.specs.Seen.{pin_said}
use Rattle.blif_pins.specs.declared.pins.BoxPin.{BoxPin}

abbrev pub said : BoxPin → PinSaid
said pin = pin_said pin.word

-- it is told of which side its port is; a name among inputs and outputs is of an output
abbrev pub HasSide : CellModel → BoxPin → Type 0
HasSide model pin = IsTrue pin.is_output ↔ Has model.outs pin.word.port.now
