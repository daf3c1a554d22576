-- Merged lists, and the numbers of nets that they mention.
use Rattle.std.proofs.Common.{◌≡◌, ◌<◌, ◌≤◌, ◌+◌, ◌⊎◌, ℕ, suc, max, List, [], ◌∷◌, ◌++◌, refl, sym, ap, ◌∙◌, subst, inl, inr, arith}
use Rattle.std.proofs.lemmas.Bool.{cases_eq, cases_lt}
use Rattle.net_types.specs.Merges.{IsMerge, Mention}
use Rattle.blif_order.specs.Tops.{top}

-- tops

top_max : (k s : ℕ) (xs : List ℕ) → top (max k s) xs ≡ max (top k xs) s
top_max k s [] = refl
top_max k s (x ∷ xs) =
    let swapped : max (max k s) (x + 1) ≡ max (max k (x + 1)) s = omega arith in
    ap (λ (m : ℕ). top m xs) swapped ∙ top_max (max k (x + 1)) s xs

pub top_low : (k : ℕ) (xs : List ℕ) → k ≤ top k xs
top_low k [] = omega arith
top_low k (x ∷ xs) = omega (arith, top_low (max k (x + 1)) xs)

pub top_commutes : (k : ℕ) (xs ys : List ℕ) → top (top k xs) ys ≡ top (top k ys) xs
top_commutes k xs [] = refl
top_commutes k xs (y ∷ ys) = ap (λ (m : ℕ). top m ys) (sym (top_max k (y + 1) xs)) ∙ top_commutes (max k (y + 1)) xs ys

pub top_merge : (k : ℕ) (xs ys zs : List ℕ) → IsMerge xs ys zs → top k zs ≡ top (top k xs) ys
top_merge k xs ys [] (no_x, no_y) = rw (no_x, no_y) refl
top_merge k xs ys (z ∷ zs) (inl (rest, is, merged)) =
    top_merge (max k (z + 1)) rest ys zs merged ∙ ap (λ (l : List ℕ). top (top k l) ys) (sym is)
top_merge k xs ys (z ∷ zs) (inr (rest, is, merged)) =
    top_merge (max k (z + 1)) xs rest zs merged ∙ (ap (λ (m : ℕ). top m rest) (top_max k (z + 1) xs) ∙ ap (λ (l : List ℕ). top (top k xs) l) (sym is))

-- mentions

pub mention_top : (k next : ℕ) (nets : List ℕ) → Mention k nets next → next ≡ top k nets
mention_top k next [] is = is
mention_top k next (n ∷ nets) (inl (low, rest)) =
    let same : k ≡ max k (n + 1) = omega (arith, low) in
    mention_top k next nets rest ∙ ap (λ (m : ℕ). top m nets) same
mention_top k next (n ∷ nets) (inr (is, rest)) =
    let same : suc k ≡ max k (n + 1) = omega (arith, is) in
    mention_top (suc k) next nets rest ∙ ap (λ (m : ℕ). top m nets) same

-- what is mentioned may be mentioned later as well
pub mention_later : (k next j : ℕ) (nets : List ℕ) → Mention k nets next → k ≤ j → Mention j nets (top j nets)
mention_later k next j [] is more = refl
mention_later k next j (n ∷ nets) (inl (low, rest)) more =
    let same : j ≡ max j (n + 1) = omega (arith, low, more) in
    inl (omega (arith, low, more), subst (λ (m : ℕ). Mention j nets (top m nets)) same (mention_later k next j nets rest more))
mention_later k next j (n ∷ nets) (inr (is, rest)) more = by (cases_eq j k) (λ j' up. mention_later (suc k) next j' nets rest up)
  where
    by : (j ≡ k) ⊎ (j ≡ k → ⊥) → ((j' : ℕ) → suc k ≤ j' → Mention j' nets (top j' nets)) → Mention j (n ∷ nets) (top j (n ∷ nets))
    by (inl here) later =
        let same : suc j ≡ max j (n + 1) = omega (arith, is, here) in
        inr (omega (arith, is, here), subst (λ (m : ℕ). Mention (suc j) nets (top m nets)) same (later (suc j) (omega (arith, here))))
    by (inr other) later =
        let above : suc k ≤ j = omega (arith, more, other) in
        let same : j ≡ max j (n + 1) = omega (arith, is, above) in
        inl (omega (arith, is, above), subst (λ (m : ℕ). Mention j nets (top m nets)) same (later j above))

pub mention_append : (k between next : ℕ) (xs ys : List ℕ) → Mention k xs between → Mention between ys next → Mention k (xs ++ ys) next
mention_append k between next [] ys is rest = subst (λ (m : ℕ). Mention m ys next) is rest
mention_append k between next (x ∷ xs) ys (inl (low, more)) rest = inl (low, mention_append k between next xs ys more rest)
mention_append k between next (x ∷ xs) ys (inr (is, more)) rest = inr (is, mention_append (suc k) between next xs ys more rest)

pub mention_one : (k n : ℕ) → n ≤ k → Mention k (n ∷ []) (max k (n + 1))
mention_one k n low = by (cases_lt n k)
  where
    by : (n < k) ⊎ (k ≤ n) → Mention k (n ∷ []) (max k (n + 1))
    by (inl less) = inl (less, omega (arith, less))
    by (inr up) = inr (omega (arith, low, up), omega (arith, low, up))

pub mention_first : (k next n : ℕ) (nets : List ℕ) → Mention k (n ∷ nets) next → n ≤ k
mention_first k next n nets (inl (low, rest)) = omega (arith, low)
mention_first k next n nets (inr (is, rest)) = omega (arith, is)

-- merges

pub merge_swap : {X : Type 0} (xs ys zs : List X) → IsMerge xs ys zs → IsMerge ys xs zs
merge_swap xs ys [] (no_x, no_y) = (no_y, no_x)
merge_swap xs ys (z ∷ zs) (inl (rest, is, merged)) = inr (rest, is, merge_swap rest ys zs merged)
merge_swap xs ys (z ∷ zs) (inr (rest, is, merged)) = inl (rest, is, merge_swap xs rest zs merged)

pub merge_right : {X : Type 0} (ys : List X) → IsMerge [] ys ys
merge_right [] = (refl, refl)
merge_right (y ∷ ys) = inr (ys, refl, merge_right ys)

pub merge_append : {X : Type 0} (xs ys : List X) → IsMerge xs ys (xs ++ ys)
merge_append [] ys = merge_right ys
merge_append (x ∷ xs) ys = inl (xs, refl, merge_append xs ys)
