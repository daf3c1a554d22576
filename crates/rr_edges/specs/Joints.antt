-- Which kinds of nodes an edge may join (VPR's routing resource graph).
use Rattle.std.specs.Prelude.{◌≡◌, ◌⊎◌}
use Rattle.rr_items.specs.declared.nodes.NodeKind.{NodeKind}
use Rattle.rr_items.specs.declared.nodes.NodeKind.TheVariants.{Source, Sink, Opin, Ipin, Chanx, Chany}
use Rattle.rr_edges.specs.declared.joints.Joint.{Joint}
use Rattle.rr_edges.specs.declared.joints.Joint.TheVariants.{Kept, PassedOver}

-- output pins and wires drive
abbrev pub Drives : NodeKind → Type 0
Drives Source = ⊥
Drives Sink = ⊥
Drives Opin = Unit {0}
Drives Ipin = ⊥
Drives Chanx = Unit {0}
Drives Chany = Unit {0}

-- input pins and wires are driven
abbrev pub IsDriven : NodeKind → Type 0
IsDriven Source = ⊥
IsDriven Sink = ⊥
IsDriven Opin = ⊥
IsDriven Ipin = Unit {0}
IsDriven Chanx = Unit {0}
IsDriven Chany = Unit {0}

-- an edge is kept from what drives to what is driven; one from a source to an output pin, or from
-- an input pin to a sink, is passed over; there is no other
abbrev pub Joins : Joint → NodeKind → NodeKind → Type 0
Joins Kept from to = Drives from × IsDriven to
Joins PassedOver from to =
    ((from ≡ Source) × (to ≡ Opin)) ⊎ ((from ≡ Ipin) × (to ≡ Sink))
