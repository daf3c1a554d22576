-- The nets of a task as lists, one by one.
use Rattle.std.proofs.Common.{◌≡◌, ◌<◌, ◌+◌, ℕ, true, List, [], ◌∷◌, ◌++◌, map, take, length, get_or, arith, ap, ◌∙◌, sym, subst, refl}
use Rattle.std.specs.List.{All, sum_by}
use Rattle.std.specs.Vec.{vec_items}
use Rattle.std.specs.declared.vec.Vec.{Vec}
use Rattle.std.proofs.lemmas.List.{get_or-map, length-map}
use Rattle.std.proofs.lemmas.List.Elements.{All-get_or, filter_passes}
use Rattle.std.proofs.lemmas.List.Sums.{sum_by_more, sum_by_push}
use Rattle.anneal_placer.specs.declared.rect.Rect.{Rect}
use Rattle.anneal_placer.specs.Rects.{holds, with_block}
use Rattle.anneal_placer.specs.Search.{AreBlockNets}
use Rattle.anneal_placer.specs.Task.{NameBlocks}

pub net_at : {Z : Type 0} (nets list : List (Vec ℕ Z)) (k : ℕ) (net : Vec ℕ Z) → list ≡ nets → k < length list → net ≡ get_or list k net → get_or (map vec_items nets) k [] ≡ net.items
net_at nets list k net same inside is =
    let there : k < length nets = omega (arith, ap length same) in
    get_or-map vec_items nets k net [] there ∙ ap vec_items (ap (λ xs. get_or xs k net) (sym same) ∙ sym is)

pub in_nets : {Z : Type 0} (nets list : List (Vec ℕ Z)) (k : ℕ) → list ≡ nets → k < length list → k < length (map vec_items nets)
in_nets nets list k same inside = omega (arith, ap length same, length-map nets vec_items)

pub named_at : (nets : List (List ℕ)) (count k : ℕ) (net : List ℕ) → NameBlocks nets count → k < length nets → get_or nets k [] ≡ net → All (λ block. block < count) net
named_at nets count k net named inside is =
    subst (λ xs. All (λ block. block < count) xs) is (All-get_or (All (λ block. block < count)) nets k [] inside named)

pub sum_step : {X : Type 0} (f : X → ℕ) (xs : List X) (k sum here : ℕ) (x d : X) → sum ≡ sum_by f (take k xs) → k < length xs → get_or xs k d ≡ x → here ≡ f x → sum + here ≡ sum_by f (take (k + 1) xs)
sum_step f xs k sum here x d so_far inside is value = omega (arith, so_far, value, ap f is, sum_by_more f xs k d inside)

-- the nets that are listed for a block hold it
pub listed_holds : (nets : List (List ℕ)) (list : List ℕ) (block k : ℕ) → map (λ (net : ℕ). get_or nets net []) list ≡ with_block block nets → k < length list →
    holds block (get_or nets (get_or list k 0) []) ≡ true
listed_holds nets list block k listed inside =
    let all = subst (λ xs. All (λ net. holds block net ≡ true) xs) (sym listed) (filter_passes (holds block) nets) in
    let inside_map : k < length (map (λ (net : ℕ). get_or nets net []) list) = omega (arith, inside, length-map list (λ (net : ℕ). get_or nets net [])) in
    subst (λ net. holds block net ≡ true) (get_or-map (λ (net : ℕ). get_or nets net []) list k 0 [] inside) (All-get_or (λ net. holds block net ≡ true) (map (λ (net : ℕ). get_or nets net []) list) k [] inside_map all)

-- one more net with other blocks, or without
pub pulls_more : (f base : ℕ → ℕ) (far : Rect → ℕ) (list : List ℕ) (k : ℕ) (rects new : List Rect) (rect : Rect) → k < length list → f (get_or list k 0) ≡ base (get_or list k 0) + far rect →
    new ≡ rects ++ rect ∷ [] → sum_by f (take k list) ≡ sum_by base (take k list) + sum_by far rects → sum_by f (take (k + 1) list) ≡ sum_by base (take (k + 1) list) + sum_by far new
pulls_more f base far list k rects new rect inside here pushed so_far =
    omega (arith, here, so_far, sum_by_more f list k 0 inside, sum_by_more base list k 0 inside, ap (sum_by far) pushed, sum_by_push far rects rect)

pub pulls_same : (f base : ℕ → ℕ) (far : Rect → ℕ) (list : List ℕ) (k : ℕ) (rects : List Rect) → k < length list → f (get_or list k 0) ≡ base (get_or list k 0) →
    sum_by f (take k list) ≡ sum_by base (take k list) + sum_by far rects → sum_by f (take (k + 1) list) ≡ sum_by base (take (k + 1) list) + sum_by far rects
pulls_same f base far list k rects inside here so_far =
    omega (arith, here, so_far, sum_by_more f list k 0 inside, sum_by_more base list k 0 inside)

-- a net of the list of a block
pub record IsNetHere (nets : List (List ℕ)) (block : ℕ) (row list : List ℕ) (k : ℕ) (net : List ℕ) : Type 0 where
  pub row_is : row ≡ list
  pub inside : get_or list k 0 < length nets
  pub net_is : get_or nets (get_or list k 0) [] ≡ net
  pub holds_block : holds block (get_or nets (get_or list k 0) []) ≡ true

pub net_here : {Z : Type 0} (nets of : List (Vec ℕ Z)) (count block k : ℕ) (row : Vec ℕ Z) (list : List ℕ) (net : Vec ℕ Z) → AreBlockNets (map vec_items nets) (map vec_items of) count →
    block < count → row ≡ get_or of block row → list ≡ row.items → k < length list → net ≡ get_or nets (get_or list k 0) net →
    IsNetHere (map vec_items nets) block (get_or (map vec_items of) block []) list k net.items
net_here nets of count block k row list net lists block_in row_read list_is inside net_read = record {
  row_is = row_is;
  inside = number_in;
  net_is = net_at nets nets (get_or list k 0) net refl (omega (arith, number_in, length-map nets vec_items)) net_read;
  holds_block = listed_holds (map vec_items nets) list block k (subst (λ xs. map (λ (n : ℕ). get_or (map vec_items nets) n []) xs ≡ with_block block (map vec_items nets)) row_is (lists.listed block block_in)) inside;
}
  where
    row_is : get_or (map vec_items of) block [] ≡ list
    row_is = net_at of of block row refl (omega (arith, block_in, lists.each, length-map of vec_items)) row_read ∙ sym list_is

    number_in : get_or list k 0 < length (map vec_items nets)
    number_in = subst (λ xs. All (λ n. n < length (map vec_items nets)) xs) row_is (lists.within block block_in) k 0 inside

-- a net that is listed for a block is a net
pub net_in : {Z : Type 0} (nets of : List (Vec ℕ Z)) (count block k : ℕ) (row : Vec ℕ Z) (list : List ℕ) → AreBlockNets (map vec_items nets) (map vec_items of) count →
    block < count → row ≡ get_or of block row → list ≡ row.items → k < length list → get_or list k 0 < length nets
net_in nets of count block k row list lists block_in row_read list_is inside =
    let row_is : get_or (map vec_items of) block [] ≡ list = net_at of of block row refl (omega (arith, block_in, lists.each, length-map of vec_items)) row_read ∙ sym list_is in
    let below : get_or list k 0 < length (map vec_items nets) = subst (λ xs. All (λ n. n < length (map vec_items nets)) xs) row_is (lists.within block block_in) k 0 inside in
    omega (arith, below, length-map nets vec_items)
