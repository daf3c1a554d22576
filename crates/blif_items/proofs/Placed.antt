-- The connected pins of a box, one by one.
use Rattle.std.proofs.Common.{◌≡◌, ◌<◌, ◌≤◌, ◌+◌, ◌↔◌, inl, inr, ℕ, IsTrue, List, [], ◌∷◌, ◌++◌, length, map, drop, get_or, append_assoc, append-nil, refl, sym, ap, ◌∙◌, subst, arith}
use Rattle.std.specs.List.{All}
use Rattle.std.proofs.lemmas.List.{length-append, drop_more, drop_all}
use Rattle.std.proofs.lemmas.Option.{slice_get_within}
use Rattle.vtr_base.specs.Lists.{Has}
use Rattle.list_laws.proofs.Members.{has_either, from_map, from_filter}
use Rattle.names.specs.Naming.{AddsName}
use Rattle.arch_types.specs.declared.arch.CellModel.{CellModel}
use Rattle.blif_boxes.specs.Pins.{ActualSaid, says_unconnected, says_net, PinSaid}
use Rattle.blif_pins.specs.declared.pins.BoxPin.{BoxPin}
use Rattle.blif_pins.specs.Seen.{said, HasSide}
use Rattle.blif_items.specs.declared.elem.PinAt.{PinAt}
use Rattle.blif_items.specs.Pins.{PlacesPin, PlacesPins}
use Rattle.blif_books.specs.Books.{BookSaid}
use Rattle.blif_items.specs.Items.{outs_of}

no_fewer : (old : List (List ℕ)) (name : List ℕ) (new : List (List ℕ)) → AddsName old name new → length old ≤ length new
no_fewer old name new (inl known) = omega (arith, ap length known.1)
no_fewer old name new (inr added) = omega (arith, ap length added.1, length-append old (name ∷ []))

place_grows : (model : CellModel) (p : PinSaid) (actual : ActualSaid) (old new : BookSaid) (here : List PinAt) → PlacesPin model p actual old new here → length old.nets ≤ length new.nets
place_grows model p says_unconnected old new here is = omega (arith, ap (λ (b : BookSaid). length b.nets) is.0)
place_grows model p (says_net name) old new here is = no_fewer old.nets name new.nets is.2.numbered.adds

places_grow : (model : CellModel) (ps : List PinSaid) (old new : BookSaid) (pins : List PinAt) → PlacesPins model ps old new pins → length old.nets ≤ length new.nets
places_grow model [] old new pins are = omega (arith, ap (λ (b : BookSaid). length b.nets) are.0)
places_grow model (p ∷ ps) old new pins are = omega (arith, place_grows model p p.actual old are.0 are.1 are.3, places_grow model ps are.0 new are.2 are.5)

place_within : (model : CellModel) (p : PinSaid) (actual : ActualSaid) (old new : BookSaid) (here : List PinAt) (pin : PinAt) → PlacesPin model p actual old new here → Has here pin → pin.net < length new.nets
place_within model p says_unconnected old new here pin is has = absurd (subst (λ l. Has l pin) is.1 has)
place_within model p (says_net name) old new here pin is has =
    let one : Has (is.1 ∷ []) pin = subst (λ l. Has l pin) is.4 has in
    elim one [
      | inl same ↦ omega (arith, ap (λ (q : PinAt). q.net) same, is.3.net_is, slice_get_within new.nets is.0 name is.2.numbered.at.there)
      | inr none ↦ absurd none
    ]

pins_within : (model : CellModel) (ps : List PinSaid) (old new : BookSaid) (pins : List PinAt) (pin : PinAt) → PlacesPins model ps old new pins → Has pins pin → pin.net < length new.nets
pins_within model [] old new pins pin are has = absurd (subst (λ l. Has l pin) are.1 has)
pins_within model (p ∷ ps) old new pins pin are has =
    elim (has_either are.1 are.2 pin (subst (λ l. Has l pin) are.4 has)) [
      | inl here ↦ omega (arith, place_within model p p.actual old are.0 are.1 pin are.3 here, places_grow model ps are.0 new are.2 are.5)
      | inr later ↦ pins_within model ps are.0 new are.2 pin are.5 later
    ]

-- the nets at outputs are mentioned
pub outs_within : (model : CellModel) (ps : List PinSaid) (old new : BookSaid) (pins : List PinAt) (outs : List ℕ) (n : ℕ) → PlacesPins model ps old new pins → outs ≡ outs_of pins → Has outs n → n < length new.nets
outs_within model ps old new pins outs n are is has =
    let found = from_map (λ (q : PinAt). q.net) _ n (subst (λ l. Has l n) is has) in
    let pin = from_filter (λ (q : PinAt). q.is_output) pins found.item found.has in
    omega (arith, found.is, pins_within model ps old new pins found.item are pin.0)

-- what is left of the pins is placed behind those that are
abbrev pub Places : CellModel → List BoxPin → BookSaid → List BoxPin → BookSaid → List PinAt → Type 0
Places model listed first rest book before =
    (new : BookSaid) (others : List PinAt) → PlacesPins model (map said rest) book new others → PlacesPins model (map said listed) first new (before ++ others)

pub places_none : (model : CellModel) (listed : List BoxPin) (first : BookSaid) (none : List PinAt) → none ≡ [] → Places model listed first listed first none
places_none model listed first none is new others are = subst (λ (l : List PinAt). PlacesPins model (map said listed) first new (l ++ others)) (sym is) are

pub places_more : (model : CellModel) (listed : List BoxPin) (first book mid : BookSaid) (k : ℕ) (d : BoxPin) (before longer here : List PinAt) → k < length listed →
    PlacesPin model (said (get_or listed k d)) (said (get_or listed k d)).actual book mid here → longer ≡ before ++ here → Places model listed first (drop k listed) book before → Places model listed first (drop (k + 1) listed) mid longer
places_more model listed first book mid k d before longer here within is grown so_far new others are =
    let cut = drop_more listed k d within in
    let all = so_far new (here ++ others) (subst (λ (r : List BoxPin). PlacesPins model (map said r) book new (here ++ others)) (sym cut) (mid, here, others, is, refl, are)) in
    let same : longer ++ others ≡ before ++ (here ++ others) = ap (λ (l : List PinAt). l ++ others) grown ∙ append_assoc before here others in
    subst (PlacesPins model (map said listed) first new) (sym same) all

pub places_all : (model : CellModel) (listed : List BoxPin) (first book : BookSaid) (k : ℕ) (before : List PinAt) → length listed ≤ k → Places model listed first (drop k listed) book before → PlacesPins model (map said listed) first book before
places_all model listed first book k before whole so_far =
    subst (PlacesPins model (map said listed) first book) (append-nil before)
    (so_far book [] (subst (λ (r : List BoxPin). PlacesPins model (map said r) book book []) (sym (drop_all k listed whole)) (refl, refl)))

pub first_in : (xs : List ℕ) → 1 ≤ length xs → Has xs (get_or xs 0 0)
first_in [] some = absurd (omega (arith, some))
first_in (x ∷ xs) some = inl refl
