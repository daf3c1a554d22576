-- The switches that a map lists.
use Rattle.std.proofs.Common.{ℕ, Bool, List, [], ◌∷◌, map, refl, sym, ap, ◌∙◌, inl, inr}
use Rattle.vtr_base.specs.Lists.{Has}
use Rattle.rr_items.specs.declared.switches.Switch.{Switch}
use Rattle.list_laws.proofs.Members.{from_map, has_map}
use Rattle.rr_places.specs.Switches.{switches_of, id_of, HasId}

pub listed : (es : List (ℕ × Bool)) (id : ℕ) (w : Bool) → Has es (id, w) → HasId (switches_of es) id (record { id = id; two_way = w })
listed es id w has = record { listed = has_map (λ (e : ℕ × Bool). record { id = e.0; two_way = e.1 }) es (id, w) has; named = refl }

pub unlisted : (es : List (ℕ × Bool)) (id : ℕ) → ((w : Bool) → Has es (id, w) → ⊥) → (s : Switch) → HasId (switches_of es) id s → ⊥
unlisted [] id none s has = has.listed
unlisted (e ∷ es) id none s has = elim has.listed [
  | inl is ↦ none e.1 (inl (ap (λ (n : ℕ). (n, e.1)) (sym has.named ∙ ap id_of is)))
  | inr more ↦ unlisted es id (λ w h. none w (inr h)) s (record { listed = more; named = has.named })
]

-- an entry of this key is one of its ids
pub seen : (es : List (ℕ × Bool)) (id : ℕ) (w : Bool) → Has es (id, w) → Has (map id_of (switches_of es)) id
seen es id w has = has_map id_of (switches_of es) (record { id = id; two_way = w }) (listed es id w has).listed

pub unseen : (es : List (ℕ × Bool)) (id : ℕ) → ((w : Bool) → Has es (id, w) → ⊥) → Has (map id_of (switches_of es)) id → ⊥
unseen es id none has =
    let f = from_map id_of (switches_of es) id has in
    unlisted es id none f.item (record { listed = f.has; named = sym f.is })
