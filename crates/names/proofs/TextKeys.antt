-- A set of texts, seen as the list of their bytes.
use Rattle.std.proofs.Common.{◌≡◌, ◌<◌, ◌+◌, ℕ, Bool, false, nat_eq, if◌then◌else◌, List, [], ◌∷◌, ◌++◌, Option, Some, None, MatchOption, length, take, drop, map, slice_get, position, sym, ap, ◌∙◌, subst, inl, inr, arith}
use Rattle.std.specs.Cmp.Lexicographic.{pointwise}
use Rattle.std.specs.List.{IsDistinct, AllByRecursion, list_any}
use Rattle.std.specs.Option.{option_map}
use Rattle.std.proofs.lemmas.Bool.{false≢true}
use Rattle.std.proofs.lemmas.List.{map-append, length-map, length-take, take-append-drop, take_more}
use Rattle.std.proofs.lemmas.List.Quantifiers.{position-Some}
use Rattle.std.proofs.lemmas.Option.{slice_get_within, slice_get-map, get_or_from_slice_get}
use Rattle.std.proofs.lemmas.Map.Keys.{IsDistinct-head, IsDistinct-tail}
use Rattle.std.proofs.lemmas.Slice.Eq.{bytes_eq-Decides}
use Rattle.indexmap.specs.IndexSet.{insert_key}
use Rattle.vtr_base.specs.Lists.{Has, IsFirstPlace}
use Rattle.list_laws.specs.Orders.{Once}
use Rattle.list_laws.proofs.Members.{from_map, has_map, at_has}
use Rattle.list_laws.proofs.Onces.{once_at}
use Rattle.list_laws.proofs.Places.{element, get_after, get_front}
use Rattle.list_laws.proofs.Searches.{any_none, position_says}
use Rattle.names.specs.Naming.{AddsName}

all_has : {X : Type 0} (P : X → Type 0) (xs : List X) → AllByRecursion P xs → (x : X) → Has xs x → P x
all_has P [] all x has = absurd has
all_has P (y ∷ ys) all x (inl is) = subst P (sym is) all.0
all_has P (y ∷ ys) all x (inr has) = all_has P ys all.1 x has

module _ {X : Type 0} (bytes : X → List ℕ) where
  abbrev pub same_bytes : X → X → Bool
  same_bytes x y = pointwise nat_eq (bytes x) (bytes y)

  pub names_once : (keys : List X) → IsDistinct same_bytes keys → Once (map bytes keys)
  names_once [] apart = tt
  names_once (k ∷ keys) apart = (
    λ has. (let found = from_map bytes keys (bytes k) has in
        let differs = all_has (λ y. same_bytes k y ≡ false) keys (IsDistinct-head same_bytes k keys apart) found.item found.has in
        false≢true (sym differs ∙ (bytes_eq-Decides (bytes k) (bytes found.item)).1 found.is)),
    names_once keys (IsDistinct-tail same_bytes k keys apart),
  )

  pub name_found : (keys : List X) (name : List ℕ) (r : Option ℕ) → r ≡ position (λ k. pointwise nat_eq name (bytes k)) keys →
      MatchOption r ((n : ℕ) → slice_get (map bytes keys) n ≡ Some name → ⊥) (λ n. slice_get (map bytes keys) n ≡ Some name)
  name_found keys name r e =
      position_says (λ k. pointwise nat_eq name (bytes k)) bytes name
      (λ k t. sym ((bytes_eq-Decides name (bytes k)).0 t)) (λ k is. (bytes_eq-Decides name (bytes k)).1 (sym is)) keys r e

  -- and it is the first place of the name
  pub place_found : (keys : List X) (name : List ℕ) (r : Option ℕ) → r ≡ position (λ k. pointwise nat_eq name (bytes k)) keys →
      MatchOption r ((n : ℕ) → slice_get (map bytes keys) n ≡ Some name → ⊥) (IsFirstPlace (map bytes keys) name)
  place_found keys name None e = name_found keys name None e
  place_found keys name (Some i) e = record {
    there = name_found keys name (Some i) e;
    first = λ k low at.
        (let p : X → Bool = λ key. pointwise nat_eq name (bytes key) in
        let x = element keys k (omega (arith, slice_get_within (map bytes keys) k name at, length-map keys bytes)) in
        let here : Some (bytes x.0) ≡ Some name = sym (slice_get-map bytes keys k ∙ ap (option_map bytes) x.1) ∙ at in
        let is : name ≡ bytes x.0 = cc in
        let fails = (position-Some p keys i x.0 (sym e)).2 k low in
        false≢true (sym fails ∙ ap p (get_or_from_slice_get keys k x.0 x.0 x.1) ∙ (bytes_eq-Decides name (bytes x.0)).1 is));
  }

  pub name_added : (keys new : List X) (key : X) (name : List ℕ) → bytes key ≡ name → ((n : ℕ) → slice_get (map bytes keys) n ≡ Some name → ⊥) →
      new ≡ insert_key same_bytes keys key → map bytes new ≡ map bytes keys ++ name ∷ []
  name_added keys new key name is fresh e =
      let none : list_any (same_bytes key) keys ≡ false =
      any_none (same_bytes key) keys (λ k has t.
      (let place = at_has (map bytes keys) (bytes k) (has_map bytes keys k has) in
      fresh place.0 (place.1 ∙ ap Some (sym ((bytes_eq-Decides (bytes key) (bytes k)).0 t) ∙ is)))) in
      ap (map bytes) (e ∙ ap (λ b. if b then keys else keys ++ key ∷ []) none) ∙ map-append bytes keys (key ∷ []) ∙ ap (λ t. map bytes keys ++ t ∷ []) is

  pub name_numbered : (keys : List X) (new : List (List ℕ)) (name : List ℕ) (next : ℕ) → new ≡ map bytes keys ++ name ∷ [] → next ≡ length keys → slice_get new next ≡ Some name
  name_numbered keys new name next e is = rw e (get_after (map bytes keys) [] name next (omega (arith, is, length-map keys bytes)))

pub fresh_name : (old new : List (List ℕ)) (name : List ℕ) → ((n : ℕ) → slice_get old n ≡ Some name → ⊥) → new ≡ old ++ name ∷ [] → AddsName old name new
fresh_name old new name fresh e = inr (λ has. (let place = at_has old name has in fresh place.0 place.1), e)

-- the names so far and the next one of a list without equal names
pub copied_more : (all copy new : List (List ℕ)) (n : ℕ) (name : List ℕ) → Once all → copy ≡ take n all → n < length all → slice_get all n ≡ Some name →
    AddsName copy name new → new ≡ take (n + 1) all
copied_more all copy new n name once is inside at (inl known) =
    let front = at_has copy name known.0 in
    let within = slice_get_within copy front.0 name front.1 in
    let low : front.0 < n = omega (arith, within, ap length is, length-take n all) in
    let there = get_front (take n all) (drop n all) front.0 name (ap (λ l. slice_get l front.0) (sym is) ∙ front.1) in
    let same = once_at all once front.0 n name (ap (λ l. slice_get l front.0) (sym (take-append-drop n all)) ∙ there) at in
    absurd (omega (arith, same, low))
copied_more all copy new n name once is inside at (inr added) =
    added.1 ∙ ap (λ l. l ++ name ∷ []) is ∙
    ap (λ x. take n all ++ x ∷ []) (sym (get_or_from_slice_get all n name name at)) ∙ sym (take_more all n name inside)
