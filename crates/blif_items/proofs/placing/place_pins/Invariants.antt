use Rattle.std.proofs.Common.{drop}
use Rattle.std.specs.List.{All}
use Rattle.arch_types.specs.declared.arch.CellModel.{CellModel}
use Rattle.blif_pins.specs.Seen.{HasSide}
use Rattle.blif_items.proofs.Placed.{Places}
use Rattle.blif_items.proofs.placing.place_pins.Given as goal

abbrev pub invariant-loop-pin : goal.invariant-loop-pin
invariant-loop-pin l = (model : CellModel) → All (HasSide model) l.listed → Places model l.listed l.initial.book (drop l.pin-index l.listed) l.book l.pins.items
