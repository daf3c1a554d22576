-- The front of a list, and names that are added one by one.
use Rattle.std.proofs.Common.{◌≡◌, ◌+◌, ◌<◌, ℕ, zero, suc, List, [], ◌∷◌, ◌++◌, Some, length, map, slice_get, slice_index_or, take, refl, sym, ap, ◌∙◌, arith}
use Rattle.std.specs.Option.{option_map}
use Rattle.std.proofs.lemmas.Option.{slice_get-map, slice_get-get_or, slice_get_read, slice_get_within, get_or_from_slice_get}
use Rattle.std.proofs.lemmas.List.{take_more}
use Rattle.vtr_base.specs.Lists.{Has}
use Rattle.list_laws.specs.Orders.{Once}
use Rattle.list_laws.proofs.Members.{at_has}
use Rattle.list_laws.proofs.Onces.{once_at}

-- what stands in the front stands in the list, and the other way round

pub front_at : {X : Type 0} (xs : List X) (k i : ℕ) (x : X) → slice_get (take k xs) i ≡ Some x → (i < k) × (slice_get xs i ≡ Some x)
front_at xs zero i x at = absurd (cc)
front_at [] (suc k) i x at = absurd (cc)
front_at (y ∷ ys) (suc k) zero x at = (omega arith, at)
front_at (y ∷ ys) (suc k) (suc i) x at = let r = front_at ys k i x at in (omega (arith, r.0), r.1)

pub at_front : {X : Type 0} (xs : List X) (k i : ℕ) (x : X) → i < k → slice_get xs i ≡ Some x → slice_get (take k xs) i ≡ Some x
at_front xs zero i x low at = absurd (omega arith)
at_front [] (suc k) i x low at = absurd (cc)
at_front (y ∷ ys) (suc k) zero x low at = at
at_front (y ∷ ys) (suc k) (suc i) x low at = at_front ys k i x (omega arith) at

-- one element more
pub one_more : {X : Type 0} (xs : List X) (k : ℕ) (x : X) → slice_get xs k ≡ Some x → take (k + 1) xs ≡ take k xs ++ x ∷ []
one_more xs k x at = take_more xs k x (slice_get_within xs k x at) ∙ ap (λ y. take k xs ++ y ∷ []) (get_or_from_slice_get xs k x x at)

-- the name of the element that was read
pub name_at : {X : Type 0} (name : X → List ℕ) (xs : List X) (k : ℕ) (x : X) (text : List ℕ) → k < length xs → x ≡ slice_index_or xs k x → text ≡ name x →
    slice_get (map name xs) k ≡ Some text
name_at name xs k x text inside is reads =
    slice_get-map name xs k ∙ ap (option_map name) (slice_get_read xs (length xs) k x refl inside is) ∙ ap Some (sym reads)

-- what was read at a place, by its view
pub view_at : {X Y : Type 0} (view : X → Y) (xs : List X) (k : ℕ) (d : X) → k < length xs → slice_get (map view xs) k ≡ Some (view (slice_index_or xs k d))
view_at view xs k d inside = slice_get-map view xs k ∙ ap (option_map view) (slice_get-get_or xs k d inside)

-- the next of different names doesn't stand before its place
pub fresh_name : (names so_far : List (List ℕ)) (k : ℕ) (name : List ℕ) → Once names → slice_get names k ≡ Some name → so_far ≡ take k names →
    Has so_far name → ⊥
fresh_name names so_far k name once at is has =
    let there = at_has so_far name has in
    let front = front_at names k there.0 name (ap (λ l. slice_get l there.0) (sym is) ∙ there.1) in
    let same : there.0 ≡ k = once_at names once there.0 k name front.1 at in
    absurd (omega (arith, front.0, same))

pub next_name : (names so_far new : List (List ℕ)) (k : ℕ) (name : List ℕ) → slice_get names k ≡ Some name → so_far ≡ take k names → new ≡ so_far ++ name ∷ [] →
    new ≡ take (k + 1) names
next_name names so_far new k name at is added = added ∙ ap (λ l. l ++ name ∷ []) is ∙ sym (one_more names k name at)
