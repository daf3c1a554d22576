use Rattle.std.proofs.Common.{◌≡◌, ◌∷◌, [], map, take}
use Rattle.std.specs.List.{flat_map}
use Rattle.arch_types.specs.declared.block.Inter.{Inter}
use Rattle.meta_block.specs.Owners.{inter_at}
use Rattle.meta_block.specs.Blocks.{way_to}
use Rattle.meta_block.specs.Steps.{AddsSaid}
use Rattle.meta_block.proofs.inters.read_inters.Given as goal

abbrev pub invariant-loop-inter : goal.invariant-loop-inter
invariant-loop-inter l = record {
  way : l.way.items ≡ l.initial.way.items;
  said : AddsSaid (flat_map (λ (inter : Inter). inter_at (way_to (map (λ n. n.now) l.initial.way.items) inter.name) l.ports l.mode inter ∷ []) (take l.inter-index l.inter-items)) l.initial.said.items l.said.items;
}
