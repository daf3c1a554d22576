-- Names found by their first place, and the block's own name before a dot.
use Rattle.std.proofs.Common.{◌≡◌, ◌↔◌, ◌<◌, ◌≤◌, ◌+◌, inl, inr, ℕ, List, [], ◌∷◌, ◌++◌, Some, map, length, get_or, slice_get, codes, refl, sym, ◌∙◌, ap, arith, below_more, take, drop}
use Rattle.std.specs.Option.{option_map}
use Rattle.std.proofs.lemmas.Option.{slice_get-map, slice_get_read, slice_get_within}
use Rattle.std.proofs.lemmas.List.{length-map, take-append-drop}
use Rattle.vtr_base.specs.Lists.{IsFirstPlace}
use Rattle.mode_edges.specs.PinWords.{IsOwnHead}

pub place_more : {X : Type 0} (name : X → List ℕ) (xs : List X) (wanted : List ℕ) (i : ℕ) (x : X) → i < length xs → x ≡ get_or xs i x → (name x ≡ wanted → ⊥) →
    ((k : ℕ) → k < i → slice_get (map name xs) k ≡ Some wanted → ⊥) → (k : ℕ) → k < i + 1 → slice_get (map name xs) k ≡ Some wanted → ⊥
place_more name xs wanted i x inside is other below =
    let here : slice_get xs i ≡ Some x = slice_get_read xs (length xs) i x refl inside is in
    let named : slice_get (map name xs) i ≡ Some (name x) = slice_get-map name xs i ∙ ap (option_map name) here in
    below_more (λ k. slice_get (map name xs) k ≡ Some wanted → ⊥) i below (λ e. other (cc))

pub no_place : {X : Type 0} (name : X → List ℕ) (xs : List X) (wanted : List ℕ) (i : ℕ) → length xs ≤ i →
    ((k : ℕ) → k < i → slice_get (map name xs) k ≡ Some wanted → ⊥) → (place : ℕ) → IsFirstPlace (map name xs) wanted place → ⊥
no_place name xs wanted i end below place first =
    let inside = slice_get_within (map name xs) place wanted first.there in
    below place (omega (arith, inside, length-map xs name)) first.there

-- two joins with fronts of one length have the same parts
pub same_parts : (a b x y : List ℕ) → length a ≡ length b → a ++ x ≡ b ++ y → (a ≡ b) × (x ≡ y)
same_parts [] [] x y l e = (refl, e)
same_parts [] (b ∷ bs) x y l e = absurd (omega arith)
same_parts (a ∷ es) [] x y l e = absurd (omega arith)
same_parts (a ∷ es) (b ∷ bs) x y l e =
    let rest : es ++ x ≡ bs ++ y = cc in
    let k = same_parts es bs x y (omega arith) rest in
    (cc, k.1)

pub split_whole : (head front behind : List ℕ) (n : ℕ) → front ≡ take n head → behind ≡ drop n head → head ≡ front ++ behind
split_whole head front behind n f b = let whole = take-append-drop n head in cc

-- where the name stands in front and isn't the whole, what follows decides
pub own_head_by_rest : (T : Type 0) (name head front behind : List ℕ) → (head ≡ name → ⊥) → head ≡ front ++ behind → front ≡ name →
    (T ↔ (behind ≡ codes "[0]")) → T ↔ IsOwnHead name head
own_head_by_rest T name head front behind not_alone is same test = (
  λ t. inr (is ∙ (ap (λ (f : List ℕ). f ++ behind) same ∙ ap (λ (b : List ℕ). name ++ b) (test.0 t))),
  λ own. elim own [
    | inl alone ↦ absurd (not_alone alone)
    | inr with_index ↦ test.1 (same_parts front name behind (codes "[0]") (ap length same) (sym is ∙ with_index)).1
  ],
)

pub own_head_other : (T : Type 0) (name head front behind : List ℕ) → (head ≡ name → ⊥) → head ≡ front ++ behind → length front ≡ length name → (front ≡ name → ⊥) →
    (T → ⊥) → T ↔ IsOwnHead name head
own_head_other T name head front behind not_alone is long other never = (
  λ t. absurd (never t),
  λ own. elim own [
    | inl alone ↦ absurd (not_alone alone)
    | inr with_index ↦ absurd (other (same_parts front name behind (codes "[0]") long (sym is ∙ with_index)).0)
  ],
)
