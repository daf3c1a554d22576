use Rattle.std.proofs.Common.{◌≡◌, ◌++◌, map, drop, flat_map}
use Rattle.meta_owners.specs.Owners.{seen, mode_steps, steps_of}
use Rattle.meta_owners.proofs.walk.+walk_pb_type.Given as goal

-- what was found, and what the modes still to come give
abbrev pub invariant-loop-mode : goal.invariant-loop-mode
invariant-loop-mode l = map seen l.steps.items ++ flat_map mode_steps (drop l.mode-index l.mode-items)
    ≡ map seen l.initial.steps.items ++ flat_map mode_steps l.mode-items

-- the same of the children of a mode
abbrev pub invariant-loop-kid : goal.invariant-loop-kid
invariant-loop-kid l = map seen l.steps.items ++ flat_map steps_of (drop l.kid-index l.kid-items)
    ≡ map seen l.initial.steps.items ++ flat_map steps_of l.kid-items
