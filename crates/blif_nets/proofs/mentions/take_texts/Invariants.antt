use Rattle.std.proofs.Common.{drop, map}
use Rattle.blif_nets.proofs.Growing.{Grows}
use Rattle.blif_nets.proofs.mentions.take_texts.Given as goal

abbrev pub invariant-loop-text : goal.invariant-loop-text
invariant-loop-text l = Grows l.initial.names l.more l.names (map (λ t. t) (drop l.text-index l.more))
