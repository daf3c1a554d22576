-- The switches of a routing graph file (VPR's routing graph files: `switches` with `switch`).
use Rattle.std.specs.Prelude.{◌≡◌, ℕ, Bool, List, map, codes}
use Rattle.vtr_base.specs.Lists.{Has}
use Rattle.elem_text.specs.declared.elem.Elem.{Elem, out-Elem}
use Rattle.elem_reading.specs.Kids.{kids_under}
use Rattle.rr_items.specs.declared.switches.Switch.{Switch}
use Rattle.rr_items.specs.Switches.{SaysSwitch}
use Rattle.rr_places.specs.declared.error.PlaceError.{PlaceError}
use Rattle.rr_places.specs.declared.error.PlaceError.TheVariants.{BadItem}
use Rattle.rr_places.specs.Reading.{AreRead, IsFirstRefused}

-- the switches of ids with their ways
abbrev pub switches_of : List (ℕ × Bool) → List Switch
switches_of entries = map (λ e. record { id = e.0; two_way = e.1 }) entries

abbrev pub switch_elems : Elem → List Elem
switch_elems root = kids_under root (codes "switches") (codes "switch")

abbrev pub id_of : Switch → ℕ
id_of s = s.id

-- the file's switches in their order
abbrev pub AreSwitches : Elem → List Switch → Type 0
AreSwitches root switches = AreRead SaysSwitch id_of (switch_elems root) switches

-- the element says no switch whose id is new
pub record IsBadSwitch (seen : List Switch) (e : Elem) (error : PlaceError) : Type 0 where
  pub told : error ≡ BadItem (out-Elem e).place
  pub bad : (s : Switch) → SaysSwitch e s → Has (map id_of seen) s.id

abbrev pub IsSwitchRefused : Elem → PlaceError → Type 0
IsSwitchRefused root error =
    IsFirstRefused SaysSwitch id_of IsBadSwitch (switch_elems root) error

-- the switch of this id
pub record HasId (switches : List Switch) (id : ℕ) (switch : Switch) : Type 0 where
  pub listed : Has switches switch
  pub named : switch.id ≡ id
