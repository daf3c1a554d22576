-- A walk over the pins that groups name, one by one.
use Rattle.std.specs.Prelude.{◌≡◌, ◌<◌, ◌+◌, ◌-◌, ℕ, Option, Some, None, List, [], ◌∷◌, ◌++◌, map, drop}
use Rattle.std.specs.List.{flat_map}
use Rattle.mode_edges.specs.Readers.{member_list, pin_of, pins_of}
use Rattle.mode_edges.specs.PinWords.{child_pin}
use Rattle.mode_edges.specs.declared.pin.LocalPin.{LocalPin}
use Rattle.mode_edges.specs.declared.names.Instances.{Instances}
use Rattle.mode_edges.specs.declared.names.PinGroup.{PinGroup}
use Rattle.mode_edges.specs.declared.walk.PinWalk.{PinWalk}

-- the pins that a walk has still to give: those of the row that it is in, of the further instances
-- of the group, and of the further groups
abbrev pub pins_left : PinWalk → List LocalPin
pins_left w =
    (map (pin_of w.owner w.bits.port) (member_list w.row)
    ++ flat_map (λ instance. map (child_pin w.instances.child instance w.bits.port) (member_list w.bits.bits)) (member_list w.instances.members))
    ++ flat_map pins_of (drop w.next w.groups.now)

abbrev pub instance_count : Option Instances → ℕ
instance_count None = 0
instance_count (Some of) = of.members.end - of.members.low

-- how often a walk can go into a group or an instance of these groups
abbrev pub entries_of : List PinGroup → ℕ
entries_of [] = 0
entries_of (g ∷ gs) = (instance_count g.of + 1) + entries_of gs

abbrev pub entries_left : PinWalk → ℕ
entries_left w = (w.instances.members.end - w.instances.members.low) + entries_of (drop w.next w.groups.now)

-- the walk went into a group or an instance, and has the same pins to give
pub record GoesOn (old new : PinWalk) : Type 0 where
  pub same : pins_left new ≡ pins_left old
  pub fewer : entries_left new < entries_left old
