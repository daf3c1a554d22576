use Rattle.std.proofs.Common.{drop}
use Rattle.blif_elems.specs.Seen.{texts}
use Rattle.blif_nets.proofs.Growing.{Grows}
use Rattle.blif_nets.proofs.mentions.take_words.Given as goal

abbrev pub invariant-loop-word : goal.invariant-loop-word
invariant-loop-word l = Grows l.initial.names (texts l.words) l.names (texts (drop l.word-index l.words))
