use Rattle.std.proofs.Common.{drop}
use Rattle.blif_elems.specs.Seen.{texts}
use Rattle.blif_nets.proofs.Counting.{Numbers}
use Rattle.blif_nets.proofs.mentions.number_all.Given as goal

abbrev pub invariant-loop-word : goal.invariant-loop-word
invariant-loop-word l = Numbers l.initial.nets (texts l.words) l.nets (texts (drop l.word-index l.words)) l.numbers.items
