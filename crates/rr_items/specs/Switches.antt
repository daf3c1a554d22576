-- A switch (VPR's routing graph files: `switch` with `id` and `type`; no type means `mux`).
use Rattle.std.specs.Prelude.{◌≡◌, ◌||◌, ℕ, Bool, List, codes}
use Rattle.std.specs.Str.{bytes_eq}
use Rattle.elem_text.specs.declared.elem.Elem.{Elem}
use Rattle.elem_attrs.specs.Attributes.{attr_of}
use Rattle.elem_reading.specs.AttributeNumbers.{HasNumber}
use Rattle.rr_items.specs.declared.switches.Switch.{Switch}

-- the kinds of switch that lead both ways
abbrev pub names_two_way : List ℕ → Bool
names_two_way kind =
    bytes_eq kind (codes "pass_gate") ||
    (bytes_eq kind (codes "short") || bytes_eq kind (codes "buffer"))

pub record SaysSwitch (e : Elem) (switch : Switch) : Type 0 where
  pub id : HasNumber e (codes "id") 2147483647 switch.id
  pub kind : switch.two_way ≡ names_two_way (attr_of e (codes "type"))
