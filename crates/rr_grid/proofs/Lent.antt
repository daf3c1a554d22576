-- Lists of lent elements, and what one of them says.
use Rattle.std.proofs.Common.{◌≡◌, ◌<◌, ℕ, List, Some, Result, Ok, Err, IfOk, IfErr, Bor, map, length, get_or, slice_get, refl, ap, ◌∙◌, subst, arith}
use Rattle.std.proofs.lemmas.List.{length-map}
use Rattle.std.proofs.lemmas.Option.{slice_get_within, slice_get-map, slice_get_read}
use Rattle.std.specs.Option.{option_map}
use Rattle.elem_text.specs.declared.elem.Elem.{Elem, out-Elem}
use Rattle.rr_items.specs.declared.grid.GridFault.{GridFault}
use Rattle.rr_items.specs.declared.grid.GridFault.TheVariants.{Number}
use Rattle.rr_items.specs.declared.grid.GridPlace.{GridPlace}
use Rattle.rr_items.specs.Grid.{SaysPlace, IsFault}
use Rattle.rr_items.specs.Ground.{IsOnGround}
use Rattle.rr_grid.specs.Refusing.{SaysNone, TellsItem}
use Rattle.rr_grid.specs.Saying.{Says}

abbrev pub lent : List (Bor Elem) → List Elem
lent items = map (λ e. e.now) items

module _ (items : List (Bor Elem)) (k : ℕ) (item : Bor Elem) (low : k < length items) (is : item ≡ get_or items k item) where
  pub elem_at : slice_get (lent items) k ≡ Some item.now
  elem_at =
      slice_get-map (λ e. e.now) items k ∙ ap (option_map (λ e. e.now)) (slice_get_read items (length items) k item refl low is)

  pub place_there : (r : Result GridPlace GridFault) (p : GridPlace) → r ≡ Ok p → IfOk r (λ q. SaysPlace item.now q × IsOnGround item.now) →
      Says (lent items) k p
  place_there r p ok says =
      let both : SaysPlace item.now p × IsOnGround item.now = subst (λ q. IfOk q (λ q'. SaysPlace item.now q' × IsOnGround item.now)) ok says in
      record { e = item.now; at = elem_at; says = both.0; ground = both.1 }

  pub fault_there : (r : Result GridPlace GridFault) (fault : GridFault) → r ≡ Err fault → IfErr r (IsFault item.now) → SaysNone (lent items) k fault
  fault_there r fault err fails =
      record { e = item.now; at = elem_at; fails = subst (λ q. IfErr q (IsFault item.now)) err fails }

  pub number_told : (r : Result GridPlace GridFault) (fault : GridFault) → r ≡ Err fault → fault ≡ Number → IfErr r (IsFault item.now) →
      TellsItem (lent items) k (out-Elem item.now).place
  number_told r fault err number fails = record {
    none = record { e = item.now; at = elem_at; fails = subst (IsFault item.now) number (subst (λ q. IfErr q (IsFault item.now)) err fails) };
    told = refl;
  }

pub within_lent : (items : List (Bor Elem)) (k : ℕ) (p : GridPlace) → Says (lent items) k p → k < length items
within_lent items k p said = omega (arith, slice_get_within (lent items) k said.e said.at, length-map items (λ e. e.now))
