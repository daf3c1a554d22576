-- A box is added.
use Rattle.std.proofs.Common.{◌≡◌, ◌<◌, inl, inr, ℕ, List, [], ◌∷◌, ◌++◌, Option, Some, MatchOption, length, map, slice_get, refl, ap, subst, arith}
use Rattle.std.specs.List.{All}
use Rattle.std.proofs.lemmas.List.{length-map}
use Rattle.std.proofs.lemmas.Option.{slice_get_within}
use Rattle.vtr_base.specs.Lists.{Has, IsFirstPlace}
use Rattle.vtr_base.specs.declared.place.Place.{Place}
use Rattle.list_laws.proofs.Members.{at_has}
use Rattle.list_laws.proofs.Places.{element}
use Rattle.arch_types.specs.declared.arch.CellModel.{CellModel}
use Rattle.arch_types.specs.Models.{model_names}
use Rattle.blif_boxes.specs.Pins.{PinSaid}
use Rattle.blif_books.specs.Books.{BookSaid}
use Rattle.blif_elems.specs.Statements.{says_box}
use Rattle.blif_errors.specs.declared.error.BlifError.{BlifError}
use Rattle.blif_errors.specs.declared.error.BlifError.TheVariants.{BadLine, UnknownModel}
use Rattle.blif_items.specs.declared.elem.PinAt.{PinAt}
use Rattle.blif_items.specs.declared.open.Open.{Open}
use Rattle.blif_items.specs.Items.{ElemSaid, is_cell, outs_of}
use Rattle.blif_items.specs.Pins.{IsCellName, PlacesPins}
use Rattle.blif_items.specs.Seen.{IsOpen}
use Rattle.blif_pins.specs.declared.pins.BoxPin.{BoxPin}
use Rattle.blif_pins.specs.Pins.{ArePins}
use Rattle.blif_pins.specs.Seen.{said, HasSide}
use Rattle.blif_parts.specs.Models.{is_elem, ModelSaid, elems_of}
use Rattle.blif_parts.specs.Refusals.{CantAddBox, CantPlaceBox}
use Rattle.blif_drafts.specs.declared.draft.Draft.{Draft}
use Rattle.blif_drafts.specs.Making.{PlacesBox}
use Rattle.blif_drafts.specs.Seen.{Holds, Grows}
use Rattle.blif_drafts.proofs.Added.{Opens, holds_elem}

pub added_box : (models : List CellModel) (name : List ℕ) (words : List (List ℕ)) (model : CellModel) (m : ModelSaid) (old new : Draft) (number : ℕ) (pins : List PinSaid) (placed : List PinAt) (atom : List ℕ) (next : Open) → Holds m old →
    IsFirstPlace (model_names models) name number → slice_get models number ≡ Some model → ArePins model words pins → PlacesBox model pins old.elements.boxes old.book placed atom new.book →
    ((all : List ElemSaid) → IsOpen all (all ++ is_cell atom number placed [] ∷ []) next) → Opens next old.elements new.elements → new.inputs ≡ old.inputs → new.outputs ≡ old.outputs → Grows models m (says_box name words) new
added_box models name words model m old new number pins placed atom next held found is are places is_next opens ins outs = record {
  new = record { book = new.book; items = m.items ++ is_elem (is_cell atom number placed []) ∷ [] };
  adds = record {
    number = number;
    found = found;
    model = model;
    is = is;
    pins = pins;
    are_pins = are;
    mentioned = places.mentioned;
    placed = placed;
    places = subst (λ (b : BookSaid). PlacesPins model pins b places.mentioned placed) held.book places.places;
    atom = atom;
    named = subst (λ (n : ℕ). IsCellName places.mentioned.nets n (outs_of placed) atom) held.elems.boxes places.named;
    book = new.book;
    makes = places.makes;
    appends = record { book_is = refl; items_are = refl };
  };
  holds = holds_elem m old new (is_cell atom number placed []) held (opens (elems_of m.items) (is_cell atom number placed []) held.elems (is_next (elems_of m.items))) ins outs;
}

-- the model of a name

pub is_below : (models : List CellModel) (name : List ℕ) (number : ℕ) → IsFirstPlace (model_names models) name number → number < length models
is_below models name number found = omega (arith, slice_get_within (model_names models) number name found.there, length-map models (λ (m : CellModel). m.name))

pub model_of : (models : List CellModel) (name : List ℕ) (number : ℕ) → IsFirstPlace (model_names models) name number → (model : CellModel) × (slice_get models number ≡ Some model)
model_of models name number found = element models number (is_below models name number found)

pub no_model_named : (models : List CellModel) (name : List ℕ) → ((n : ℕ) → slice_get (model_names models) n ≡ Some name → ⊥) → Has (model_names models) name → ⊥
no_model_named models name none has = let at = at_has (model_names models) name has in none at.0 at.1

pub unknown_model : (models : List CellModel) (m : ModelSaid) (name copy : List ℕ) (words : List (List ℕ)) (place : Place) → ((n : ℕ) → slice_get (model_names models) n ≡ Some name → ⊥) → copy ≡ name → CantAddBox models m name words place (UnknownModel copy)
unknown_model models m name copy words place none is = inl (no_model_named models name none, ap UnknownModel is)

-- the words behind a model's name say no pins, or these
abbrev pub Reads : List CellModel → ℕ → List (List ℕ) → Option (List BoxPin) → Type 0
Reads models number words found =
    (m : CellModel) → slice_get models number ≡ Some m → MatchOption found ((pins : List PinSaid) → ArePins m words pins → ⊥) (λ pins. ArePins m words (map said pins) × All (HasSide m) pins)

pub no_pins : (models : List CellModel) (m : ModelSaid) (name : List ℕ) (number : ℕ) (words : List (List ℕ)) (place : Place) → IsFirstPlace (model_names models) name number →
    ((model : CellModel) → slice_get models number ≡ Some model → (pins : List PinSaid) → ArePins model words pins → ⊥) → CantAddBox models m name words place (BadLine place)
no_pins models m name number words place found none =
    let at = model_of models name number found in
    inr (record { number = number; found = found; model = at.0; is = at.1; why = inl (none at.0 at.1, refl) })

pub cant_place : (models : List CellModel) (m : ModelSaid) (name : List ℕ) (number : ℕ) (words : List (List ℕ)) (place : Place) (model : CellModel) (pins : List PinSaid) (e : BlifError) → IsFirstPlace (model_names models) name number →
    slice_get models number ≡ Some model → ArePins model words pins → CantPlaceBox m model pins place e → CantAddBox models m name words place e
cant_place models m name number words place model pins e found is are cant = inr (record { number = number; found = found; model = model; is = is; why = inr (pins, are, cant) })
