use Rattle.std.proofs.Common.{drop}
use Rattle.blif_elems.specs.Seen.{texts}
use Rattle.blif_pins.proofs.Pinning.{Reads}
use Rattle.blif_pins.proofs.pins.pins_of.Given as goal

abbrev pub invariant-loop-word : goal.invariant-loop-word
invariant-loop-word l = Reads l.ports.model l.ports.names (texts l.words) (texts (drop l.word-index l.words)) l.keys.keys l.pins.items
