use Rattle.std.proofs.Common.{◌≡◌, take}
use Rattle.blif_elems.specs.Seen.{texts}
use Rattle.blif_drafts.proofs.pads.lend_all.Given as goal

abbrev pub invariant-loop-name : goal.invariant-loop-name
invariant-loop-name l = texts l.lent.items ≡ take l.name-index l.names
