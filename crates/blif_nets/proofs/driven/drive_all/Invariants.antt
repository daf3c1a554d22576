use Rattle.std.proofs.Common.{drop}
use Rattle.blif_nets.proofs.Growing.{Grows}
use Rattle.blif_nets.proofs.driven.drive_all.Given as goal

abbrev pub invariant-loop-net : goal.invariant-loop-net
invariant-loop-net l = Grows l.initial.driven.keys l.nets l.driven.keys (drop l.net-index l.nets)
