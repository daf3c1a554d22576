use Rattle.std.proofs.Common.{map, take}
use Rattle.mode_edges.specs.Groups.{AreNamed}
use Rattle.mode_edges.proofs.groups.named_all.Given as goal

abbrev pub invariant-loop-text : goal.invariant-loop-text
invariant-loop-text l = AreNamed l.names.block l.names.mode l.role (map (λ w. w.now) (take l.text-index l.words)) l.found.items
