use Rattle.std.proofs.Common.{◌≡◌, ◌++◌, map, drop}
use Rattle.meta_owners.specs.Owners.{seen, at_inter}
use Rattle.meta_owners.proofs.walk.open_mode.Given as goal

-- what was found, and what the interconnects still to come give
abbrev pub invariant-loop-inter : goal.invariant-loop-inter
invariant-loop-inter l = map seen l.steps.items ++ map at_inter (drop l.inter-index l.inter-items)
    ≡ map seen l.initial.steps.items ++ map at_inter l.inter-items
