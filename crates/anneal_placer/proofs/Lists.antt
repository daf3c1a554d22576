-- The lists of nets by block, net by net.
use Rattle.std.proofs.Common.{◌≡◌, ◌≢◌, ◌⊎◌, ◌<◌, ◌+◌, ◌||◌, ℕ, true, false, cond, List, [], ◌∷◌, ◌++◌, map, take, length, get_or, set, arith, ap, ◌∙◌, sym, subst, inl, inr}
use Rattle.std.specs.Prelude.{nat_eq}
use Rattle.std.specs.List.{All}
use Rattle.std.specs.Vec.{vec_items}
use Rattle.std.specs.declared.vec.Vec.{Vec}
use Rattle.std.proofs.lemmas.Bool.{cases_Bool, cases_eq, cases_lt}
use Rattle.std.proofs.lemmas.List.{append-nil, get_or-map, get_or-set_other, get_or-set_same, get_or_append_left, get_or_past, get_or_push, length-append, length-map, length-set, map-append, map-set, take_all}
use Rattle.std.proofs.lemmas.List.Elements.{filter_more}
use Rattle.std.proofs.lemmas.List.Folds.{list_any_more}
use Rattle.anneal_placer.specs.Rects.{holds, with_block}
use Rattle.anneal_placer.specs.Search.{AddsNet, AreBlockNets, AreFirstNets}

holds_more : (block : ℕ) (net : List ℕ) (k : ℕ) → k < length net → holds block (take (k + 1) net) ≡ (holds block (take k net) || nat_eq (get_or net k 0) block)
holds_more block net k inside = list_any_more (λ other. nat_eq other block) net k 0 inside

-- one more block of the net
pub adds_more : (number j x : ℕ) (net : List ℕ) (old before after : List (List ℕ)) → j < length net → get_or net j 0 ≡ x → x < length old → AddsNet number (take j net) old before →
    length after ≡ length before → ((block : ℕ) → block ≢ x → get_or after block [] ≡ get_or before block []) →
    ((front : List ℕ) → get_or before x [] ≡ front ++ number ∷ [] → get_or after x [] ≡ get_or before x []) →
    (All (λ other. other < number) (get_or before x []) → get_or after x [] ≡ get_or before x [] ++ number ∷ []) → All (λ other. other < number) (get_or old x []) → AddsNet number (take (j + 1) net) old after
adds_more number j x net old before after inside is x_in adds same_size others again first earlier = record {
  each = same_size ∙ adds.each;
  lists = λ block block_in. at block block_in (cases_eq block x);
}
  where
    at_x : ((holds x (take j net) ≡ true) ⊎ (holds x (take j net) ≡ false)) → get_or after x [] ≡ get_or old x [] ++ number ∷ []
    at_x (inl held) =
        let was : get_or before x [] ≡ get_or old x [] ++ number ∷ [] = subst (λ b. get_or before x [] ≡ cond b (get_or old x [] ++ number ∷ []) (get_or old x [])) held (adds.lists x x_in) in
        again (get_or old x []) was ∙ was
    at_x (inr absent) =
        let was : get_or before x [] ≡ get_or old x [] = subst (λ b. get_or before x [] ≡ cond b (get_or old x [] ++ number ∷ []) (get_or old x [])) absent (adds.lists x x_in) in
        first (subst (λ xs. All (λ other. other < number) xs) (sym was) earlier) ∙ ap (λ xs. xs ++ number ∷ []) was

    at : (block : ℕ) → block < length old → ((block ≡ x) ⊎ (block ≢ x)) → get_or after block [] ≡ cond (holds block (take (j + 1) net)) (get_or old block [] ++ number ∷ []) (get_or old block [])
    at block block_in (inl same) =
        let found : holds block (take (j + 1) net) ≡ true = holds_more block net j inside ∙ grind (arith, is, same) in
        rw found (subst (λ b. get_or after b [] ≡ get_or old b [] ++ number ∷ []) (sym same) (at_x (cases_Bool (holds x (take j net)))))
    at block block_in (inr other) =
        let kept : holds block (take (j + 1) net) ≡ holds block (take j net) = holds_more block net j inside ∙ grind (arith, is, other) in
        rw kept (others block other ∙ adds.lists block block_in)

-- one more net
pub nets_more : (nets old new : List (List ℕ)) (net : List ℕ) (count k : ℕ) → k < length nets → get_or nets k [] ≡ net → AreFirstNets nets old count k → AddsNet k net old new → AreFirstNets nets new count (k + 1)
nets_more nets old new net count k inside is so_far adds = record {
  each = adds.each ∙ so_far.each;
  within = λ block block_in. within block block_in (cases_Bool (holds block net)) (adds.lists block (omega (arith, block_in, so_far.each)));
  listed = λ block block_in. listed block block_in (cases_Bool (holds block net)) (adds.lists block (omega (arith, block_in, so_far.each)));
}
  where
    pushed_below : (xs : List ℕ) → All (λ n. n < k + 1) xs → All (λ n. n < k + 1) (xs ++ k ∷ [])
    pushed_below xs all = λ i d i_in. elim (cases_lt i (length xs)) [
      | inl low ↦ omega (arith, get_or_append_left xs (k ∷ []) d i low, all i d low)
      | inr last ↦ (let e : i ≡ length xs = omega (arith, length-append xs (k ∷ [])) in omega (arith, ap (λ z. get_or (xs ++ k ∷ []) z d) e, get_or_push xs k d))
    ]

    weaker : (xs : List ℕ) → All (λ n. n < k) xs → All (λ n. n < k + 1) xs
    weaker xs all = λ i d i_in. let low = all i d i_in in omega arith

    within : (block : ℕ) → block < count → ((holds block net ≡ true) ⊎ (holds block net ≡ false)) →
        get_or new block [] ≡ cond (holds block net) (get_or old block [] ++ k ∷ []) (get_or old block []) → All (λ n. n < k + 1) (get_or new block [])
    within block block_in (inl held) told =
        let is_new = subst (λ b. get_or new block [] ≡ cond b (get_or old block [] ++ k ∷ []) (get_or old block [])) held told in
        subst (λ xs. All (λ n. n < k + 1) xs) (sym is_new) (pushed_below (get_or old block []) (weaker (get_or old block []) (so_far.within block block_in)))
    within block block_in (inr absent) told =
        let is_old = subst (λ b. get_or new block [] ≡ cond b (get_or old block [] ++ k ∷ []) (get_or old block [])) absent told in
        subst (λ xs. All (λ n. n < k + 1) xs) (sym is_old) (weaker (get_or old block []) (so_far.within block block_in))

    listed : (block : ℕ) → block < count → ((holds block net ≡ true) ⊎ (holds block net ≡ false)) →
        get_or new block [] ≡ cond (holds block net) (get_or old block [] ++ k ∷ []) (get_or old block []) → map (λ (n : ℕ). get_or nets n []) (get_or new block []) ≡ with_block block (take (k + 1) nets)
    listed block block_in (inl held) told =
        let is_new = subst (λ b. get_or new block [] ≡ cond b (get_or old block [] ++ k ∷ []) (get_or old block [])) held told in
        let more = subst (λ b. with_block block (take (k + 1) nets) ≡ with_block block (take k nets) ++ cond b (get_or nets k [] ∷ []) []) (ap (holds block) is ∙ held) (filter_more (holds block) nets k [] inside) in
        ap (map (λ (n : ℕ). get_or nets n [])) is_new ∙ map-append (λ (n : ℕ). get_or nets n []) (get_or old block []) (k ∷ []) ∙ ap (λ xs. xs ++ get_or nets k [] ∷ []) (so_far.listed block block_in) ∙ sym more
    listed block block_in (inr absent) told =
        let is_old = subst (λ b. get_or new block [] ≡ cond b (get_or old block [] ++ k ∷ []) (get_or old block [])) absent told in
        let more = subst (λ b. with_block block (take (k + 1) nets) ≡ with_block block (take k nets) ++ cond b (get_or nets k [] ∷ []) []) (ap (holds block) is ∙ absent) (filter_more (holds block) nets k [] inside) in
        ap (map (λ (n : ℕ). get_or nets n [])) is_old ∙ so_far.listed block block_in ∙ sym (more ∙ append-nil (with_block block (take k nets)))

-- a list written over another
pub record IsPut {Z : Type 0} (of new : List (Vec ℕ Z)) (x : ℕ) (old v : Vec ℕ Z) : Type 0 where
  pub was : get_or (map vec_items of) x [] ≡ old.items
  pub is : get_or (map vec_items new) x [] ≡ v.items
  pub size : length (map vec_items new) ≡ length (map vec_items of)
  pub others : (block : ℕ) → block ≢ x → get_or (map vec_items new) block [] ≡ get_or (map vec_items of) block []

pub put : {Z : Type 0} (of : List (Vec ℕ Z)) (x : ℕ) (old v : Vec ℕ Z) → x < length of → old ≡ get_or of x old → IsPut of (set of x v) x old v
put of x old v inside read = record {
  was = get_or-map vec_items of x old [] inside ∙ ap vec_items (sym read);
  is = get_or-map vec_items (set of x v) x v [] (omega (arith, inside, length-set of x v)) ∙ ap vec_items (get_or-set_same of x v v inside);
  size = length-map (set of x v) vec_items ∙ length-set of x v ∙ sym (length-map of vec_items);
  others = λ block other. ap (λ xs. get_or xs block []) (map-set vec_items of x v) ∙ get_or-set_other (map vec_items of) x block (vec_items v) [] other;
}

-- a list of empty lists, with one more
pub empty_more : {Z : Type 0} (of : List (Vec ℕ Z)) (v : Vec ℕ Z) → v.items ≡ [] → ((block : ℕ) → get_or (map vec_items of) block [] ≡ []) → (block : ℕ) → get_or (map vec_items (of ++ v ∷ [])) block [] ≡ []
empty_more of v none below block =
    let whole : map vec_items (of ++ v ∷ []) ≡ map vec_items of ++ v.items ∷ [] = map-append vec_items of (v ∷ []) in
    elim (cases_lt block (length (map vec_items of))) [
      | inl low ↦ ap (λ xs. get_or xs block []) whole ∙ get_or_append_left (map vec_items of) (v.items ∷ []) [] block low ∙ below block
      | inr high ↦ elim (cases_eq (length (map vec_items of)) block) [
        | inl last ↦ ap (λ xs. get_or xs block []) whole ∙ get_or_push (map vec_items of) v.items [] block last ∙ none
        | inr past ↦ ap (λ xs. get_or xs block []) whole ∙ get_or_past (map vec_items of ++ v.items ∷ []) block [] (omega (arith, length-append (map vec_items of) (v.items ∷ [])))
      ]
    ]

-- no nets yet
pub no_nets : (nets lists : List (List ℕ)) (count : ℕ) → length lists ≡ count → ((block : ℕ) → get_or lists block [] ≡ []) → AreFirstNets nets lists count 0
no_nets nets lists count each empty = record {
  each = each;
  within = λ block block_in. subst (λ xs. All (λ n. n < 0) xs) (sym (empty block)) (λ i d i_in. absurd (omega arith));
  listed = λ block block_in. ap (map (λ (n : ℕ). get_or nets n [])) (empty block);
}

-- all nets
pub all_nets : (nets lists : List (List ℕ)) (count : ℕ) → AreFirstNets nets lists count (length nets) → AreBlockNets nets lists count
all_nets nets lists count first = record {
  each = first.each;
  within = first.within;
  listed = λ block block_in. first.listed block block_in ∙ ap (with_block block) (take_all (length nets) nets (omega arith));
}

pub earlier : {Z : Type 0} (of : List (Vec ℕ Z)) (nets : List (List ℕ)) (count k : ℕ) → AreFirstNets nets (map vec_items of) count k → All (λ (list : Vec ℕ Z). All (λ other. other < k) list.items) of
earlier of nets count k first = λ i d i_in.
    let there : i < length (map vec_items of) = omega (arith, i_in, length-map of vec_items) in
    subst (λ xs. All (λ other. other < k) xs) (get_or-map vec_items of i d [] i_in) (first.within i (omega (arith, there, first.each)))
