use Rattle.std.proofs.Common.{◌≡◌, map, take}
use Rattle.std.specs.List.{flat_map}
use Rattle.meta_block.specs.Blocks.{mode_owners, owners_below}
use Rattle.meta_block.specs.Steps.{AddsSaid}
use Rattle.meta_block.proofs.walk.+owners.Given as goal

abbrev pub invariant-read_kids-loop-kid : goal.invariant-read_kids-loop-kid
invariant-read_kids-loop-kid l = record {
  way : l.way.items ≡ l.initial.way.items;
  said : AddsSaid (flat_map (owners_below (map (λ n. n.now) l.initial.way.items)) (take l.kid-index l.kids)) l.initial.said.items l.said.items;
}

abbrev pub invariant-read_modes-loop-mode : goal.invariant-read_modes-loop-mode
invariant-read_modes-loop-mode l = record {
  way : l.way.items ≡ l.initial.way.items;
  said : AddsSaid (flat_map (mode_owners (map (λ n. n.now) l.initial.way.items) l.ports) (take l.mode-index l.modes)) l.initial.said.items l.said.items;
}
