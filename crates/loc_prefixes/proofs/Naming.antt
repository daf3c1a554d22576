-- Different names of a list, name by name.
use Rattle.std.proofs.Common.{◌≡◌, ◌<◌, ◌+◌, ℕ, List, [], ◌∷◌, ◌++◌, Some, length, map, take, drop, get_or, slice_get, refl, sym, ap, ◌∙◌, arith}
use Rattle.std.specs.Option.{option_map}
use Rattle.std.proofs.lemmas.List.{length-take, take-append-drop, take_more}
use Rattle.std.proofs.lemmas.Option.{slice_get_within, slice_get-map, slice_get_read, get_or_from_slice_get}
use Rattle.vtr_base.specs.Lists.{Has}
use Rattle.list_laws.proofs.Members.{at_has}
use Rattle.list_laws.proofs.Places.{get_front}
use Rattle.arch_types.specs.Names.{AreDifferent}

-- the name of an element that was read
pub name_at : {X : Type 0} (name : X → List ℕ) (xs : List X) (k : ℕ) (x : X) (text : List ℕ) → k < length xs → x ≡ get_or xs k x → text ≡ name x →
    slice_get (map name xs) k ≡ Some text
name_at name xs k x text inside is reads =
    slice_get-map name xs k ∙ ap (option_map name) (slice_get_read xs (length xs) k x refl inside is) ∙ ap Some (sym reads)

pub fresh_name : (names so_far : List (List ℕ)) (k : ℕ) (name : List ℕ) → AreDifferent names → slice_get names k ≡ Some name → so_far ≡ take k names →
    Has so_far name → ⊥
fresh_name names so_far k name different at is has =
    let there = at_has so_far name has in
    let low : there.0 < k = omega (arith, slice_get_within so_far there.0 name there.1, ap length is, length-take k names) in
    let earlier : slice_get names there.0 ≡ Some name =
    ap (λ l. slice_get l there.0) (sym (take-append-drop k names)) ∙
    get_front (take k names) (drop k names) there.0 name (ap (λ l. slice_get l there.0) (sym is) ∙ there.1) in
    different there.0 k name low (slice_get_within names k name at)
    (get_or_from_slice_get names there.0 name name earlier ∙ sym (get_or_from_slice_get names k name name at))

pub next_name : (names so_far new : List (List ℕ)) (k : ℕ) (name : List ℕ) → slice_get names k ≡ Some name → so_far ≡ take k names → new ≡ so_far ++ name ∷ [] →
    new ≡ take (k + 1) names
next_name names so_far new k name at is added =
    added ∙ ap (λ l. l ++ name ∷ []) is ∙
    ap (λ n. take k names ++ n ∷ []) (sym (get_or_from_slice_get names k name name at)) ∙
    sym (take_more names k name (slice_get_within names k name at))
