-- Lists that are taken apart from their end, after they were turned.
use Rattle.std.proofs.Common.{◌≡◌, Bool, true, false, cond, List, [], ◌∷◌, ◌++◌, refl, sym, ap, ◌∙◌}
use Rattle.std.specs.Prelude.{reverse}
use Rattle.std.proofs.lemmas.List.{reverse-append}
use Rattle.blif_items.specs.declared.elem.PinAt.{PinAt}
use Rattle.blif_parts.specs.Atoms.{conns_on, pin_conn}

-- the last item of a list comes first of the turned one
pub turned_last : {X : Type 0} (all front : List X) (x : X) → all ≡ front ++ x ∷ [] → reverse all ≡ x ∷ reverse front
turned_last all front x is = ap reverse is ∙ reverse-append front (x ∷ [])

-- the connections of one side, pin by pin
pub conns_more : (side : Bool) (pin : PinAt) (pins : List PinAt) → conns_on side (pin ∷ pins) ≡ conns_on side (pin ∷ []) ++ conns_on side pins
conns_more side pin pins = by side pin.is_output
  where
    by : (side output : Bool) →
        (cond output (cond side (pin_conn pin ∷ conns_on side pins) (conns_on side pins)) (cond side (conns_on side pins) (pin_conn pin ∷ conns_on side pins)))
        ≡ (cond output (cond side (pin_conn pin ∷ []) []) (cond side [] (pin_conn pin ∷ []))) ++ conns_on side pins
    by true true = refl
    by true false = refl
    by false true = refl
    by false false = refl
