use Rattle.std.proofs.Common.{◌≡◌, ◌++◌, map, filter, drop, codes}
use Rattle.elem_attrs.specs.Attributes.{has_tag}
use Rattle.rr_places.specs.PinElems.{seen_pin}
use Rattle.rr_places.proofs.pin_elems.add_pins.Given as goal

abbrev pub invariant-loop-kid : goal.invariant-loop-kid
invariant-loop-kid l =
    map seen_pin l.found.items ++ map (λ k. (l.class, k)) (filter (λ k. has_tag k (codes "pin")) (drop l.kid-index l.kid-items))
    ≡ map seen_pin l.initial.found.items ++ map (λ k. (l.class, k)) (filter (λ k. has_tag k (codes "pin")) l.kid-items)
