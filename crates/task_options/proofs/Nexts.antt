-- What comes next in lists that are made of others.
use Rattle.std.proofs.Common.{◌≡◌, ◌<◌, ◌≤◌, ◌+◌, ◌-◌, ◌⊎◌, inl, inr, ℕ, zero, suc, Bool, true, false, List, [], ◌∷◌, ◌++◌, Option, Some, None, map, filter, length, slice_get, refl, sym, ap, ◌∙◌, subst, arith}
use Rattle.std.specs.Option.{option_map}
use Rattle.std.proofs.lemmas.Option.{slice_get-map}
use Rattle.std.proofs.lemmas.Bool.{cases_Bool, cases_lt}
use Rattle.vtr_base.specs.Lists.{Has, up_from}
use Rattle.list_laws.proofs.Members.{has_right, from_map}
use Rattle.list_laws.proofs.Places.{element}
use Rattle.pb_expand.specs.declared.number.EdgeIx.{EdgeIx}
use Rattle.task_options.specs.Choosing.{IsNextIn, or_none, Ascend, AreHalves}

no_end : {X : Type 0} (front xs : List X) (x : X) → [] ≡ front ++ x ∷ xs → ⊥
no_end [] xs x e = cc
no_end (u ∷ front) xs x e = cc

-- numbers one by one
pub up_split : (n k m : ℕ) (before rest : List ℕ) → up_from n k ≡ before ++ m ∷ rest → rest ≡ up_from (m + 1) ((n + k) - (m + 1))
up_split n zero m before rest e = absurd (no_end before rest m e)
up_split n (suc k) m [] rest e =
    let first : m ≡ n = cc in
    let tail : rest ≡ up_from (n + 1) k = cc in
    let count : k ≡ (n + suc k) - (m + 1) = omega arith in
    tail ∙ ap (λ j. up_from (j + 1) k) (sym first) ∙ ap (λ j. up_from (m + 1) j) count
up_split n (suc k) m (u ∷ before) rest e =
    let tail : up_from (n + 1) k ≡ before ++ m ∷ rest = cc in
    let count : ((n + 1) + k) - (m + 1) ≡ (n + suc k) - (m + 1) = omega arith in
    up_split (n + 1) k m before rest tail ∙ ap (λ j. up_from (m + 1) j) count

-- those of them that pass a test
filter_step : (p : ℕ → Bool) (n m : ℕ) (xs before rest : List ℕ) → filter p (n ∷ xs) ≡ before ++ m ∷ rest →
    ((b : List ℕ) × (filter p xs ≡ b ++ m ∷ rest)) ⊎ ((m ≡ n) × (rest ≡ filter p xs))
filter_step p n m xs before rest e = elim (cases_Bool (p n)) [
  | inl passes ↦ kept before (rw passes at e)
  | inr fails ↦ inl (before, rw fails at e)
]
  where
    kept : (b : List ℕ) → n ∷ filter p xs ≡ b ++ m ∷ rest → ((b : List ℕ) × (filter p xs ≡ b ++ m ∷ rest)) ⊎ ((m ≡ n) × (rest ≡ filter p xs))
    kept [] is = let first : m ≡ n = cc in let tail : rest ≡ filter p xs = cc in inr (first, tail)
    kept (u ∷ b) is = let tail : filter p xs ≡ b ++ m ∷ rest = cc in inl (b, tail)

pub filter_split : (p : ℕ → Bool) (n k m : ℕ) (before rest : List ℕ) → filter p (up_from n k) ≡ before ++ m ∷ rest →
    rest ≡ filter p (up_from (m + 1) ((n + k) - (m + 1)))
filter_split p n zero m before rest e = absurd (no_end before rest m e)
filter_split p n (suc k) m before rest e = elim (filter_step p n m (up_from (n + 1) k) before rest e) [
  | inl later ↦ (
      let count : ((n + 1) + k) - (m + 1) ≡ (n + suc k) - (m + 1) = omega arith in
      filter_split p (n + 1) k m later.0 rest later.1 ∙ ap (λ j. filter p (up_from (m + 1) j)) count)
  | inr here ↦ (
      let first = here.0 in
      let count : k ≡ (n + suc k) - (m + 1) = omega (arith, first) in
      here.1 ∙ ap (λ j. filter p (up_from (j + 1) k)) (sym first) ∙ ap (λ j. filter p (up_from (m + 1) j)) count)
]

-- where a mapped list parts, the list parts
pub record Parts {A B : Type 0} (f : A → B) (xs : List A) (y : B) (rest : List B) : Type 0 where
  pub front : List A
  pub item : A
  pub back : List A
  pub is : xs ≡ front ++ item ∷ back
  pub same : y ≡ f item
  pub tail : rest ≡ map f back

pub map_split : {A B : Type 0} (f : A → B) (xs : List A) (before : List B) (y : B) (rest : List B) → map f xs ≡ before ++ y ∷ rest → Parts f xs y rest
map_split f [] before y rest e = absurd (no_end before rest y e)
map_split f (x ∷ xs) [] y rest e = let same : y ≡ f x = cc in let tail : rest ≡ map f xs = cc in record { front = []; item = x; back = xs; is = refl; same = same; tail = tail }
map_split f (x ∷ xs) (u ∷ before) y rest e =
    let later : map f xs ≡ before ++ y ∷ rest = cc in
    let r = map_split f xs before y rest later in
    record { front = x ∷ r.front; item = r.item; back = r.back; is = ap (λ zs. x ∷ zs) r.is; same = r.same; tail = r.tail }

-- where an appended list parts, one of the two does
pub append_split : {X : Type 0} (xs ys before : List X) (y : X) (rest : List X) → xs ++ ys ≡ before ++ y ∷ rest →
    ((tail : List X) × (xs ≡ before ++ y ∷ tail) × (rest ≡ tail ++ ys)) ⊎ ((front : List X) × (ys ≡ front ++ y ∷ rest))
append_split [] ys before y rest e = inr (before, e)
append_split (x ∷ xs) ys [] y rest e = let first : x ≡ y = cc in let tail : rest ≡ xs ++ ys = cc in inl (xs, ap (λ z. z ∷ xs) first, tail)
append_split (x ∷ xs) ys (u ∷ before) y rest e =
    let first : x ≡ u = cc in
    let later : xs ++ ys ≡ before ++ y ∷ rest = cc in
    elim (append_split xs ys before y rest later) [
      | inl here ↦ inl (here.0, ap (λ z. z ∷ xs) first ∙ ap (λ zs. u ∷ zs) here.1, here.2)
      | inr there ↦ inr there
    ]

-- what comes next

pub next_up : (limit last : ℕ) (next : Option ℕ) → next ≡ slice_get (up_from (last + 1) (limit - (last + 1))) 0 → IsNextIn (up_from 0 limit) last next
next_up limit last next is = record {
  each = λ before rest e.
      let count : (0 + limit) - (last + 1) ≡ limit - (last + 1) = omega arith in
      is ∙ ap (λ j. slice_get (up_from (last + 1) j) 0) (sym count) ∙ ap (λ xs. slice_get xs 0) (sym (up_split 0 limit last before rest e));
}

pub next_mapped : {A B : Type 0} (f : A → B) (xs : List A) (x : A) (next : Option A) → ((y z : A) → f y ≡ f z → y ≡ z) → IsNextIn xs x next → IsNextIn (map f xs) (f x) (option_map f next)
next_mapped f xs x next apart of = record {
  each = λ before rest e.
      let r = map_split f xs before (f x) rest e in
      let same : x ≡ r.item = apart x r.item r.same in
      ap (λ o. option_map f o) (of.each r.front r.back (r.is ∙ ap (λ z. r.front ++ z ∷ r.back) (sym same)))
      ∙ sym (slice_get-map f r.back 0) ∙ ap (λ zs. slice_get zs 0) (sym r.tail);
}

pub next_first : {X : Type 0} (x : X) (xs : List X) (next : Option X) → (Has xs x → ⊥) → next ≡ slice_get xs 0 → IsNextIn (x ∷ xs) x next
next_first x xs next apart is = record { each = λ before rest e. by before rest e }
  where
    by : (before rest : List _) → x ∷ xs ≡ before ++ x ∷ rest → next ≡ slice_get rest 0
    by [] rest e = let tail : xs ≡ rest = cc in is ∙ ap (λ zs. slice_get zs 0) tail
    by (u ∷ before) rest e =
        let tail : xs ≡ before ++ x ∷ rest = cc in
        absurd (apart (subst (λ zs. Has zs x) (sym tail) (has_right before (x ∷ rest) x (inl refl))))

pub next_later : {X : Type 0} (y : X) (xs : List X) (x : X) (next : Option X) → (x ≡ y → ⊥) → IsNextIn xs x next → IsNextIn (y ∷ xs) x next
next_later y xs x next apart of = record { each = λ before rest e. by before rest e }
  where
    by : (before rest : List _) → y ∷ xs ≡ before ++ x ∷ rest → next ≡ slice_get rest 0
    by [] rest e = absurd (apart (let first : x ≡ y = cc in first))
    by (u ∷ before) rest e = let tail : xs ≡ before ++ x ∷ rest = cc in of.each before rest tail

some_apart : {X : Type 0} (xs : List X) → Has (map (λ (x : X). Some x) xs) None → ⊥
some_apart xs has = let r = from_map (λ x. Some x) xs None has in let bad : ⊥ = cc r.is in bad

some_same : {X : Type 0} (y z : X) → Some y ≡ Some z → y ≡ z
some_same y z e = cc

pub next_of_none : {X : Type 0} (xs : List X) (next : Option X) → next ≡ slice_get xs 0 → IsNextIn (or_none xs) None (option_map (λ (x : X). Some x) next)
next_of_none {X} xs next is =
    next_first None (map (λ (x : X). Some x) xs) (option_map (λ (x : X). Some x) next) (some_apart xs)
    (ap (λ o. option_map (λ (x : X). Some x) o) is ∙ sym (slice_get-map (λ (x : X). Some x) xs 0))

pub next_of_some : {X : Type 0} (xs : List X) (x : X) (next : Option X) → IsNextIn xs x next → IsNextIn (or_none xs) (Some x) (option_map (λ (x : X). Some x) next)
next_of_some {X} xs x next of =
    next_later None (map (λ (x : X). Some x) xs) (Some x) (option_map (λ (x : X). Some x) next) (λ e. cc)
    (next_mapped (λ (x : X). Some x) xs x next some_same of)

pub after_none : {X : Type 0} (xs : List X) (last : Option X) (next : Option X) → last ≡ None → next ≡ slice_get xs 0 → IsNextIn (or_none xs) last (option_map (λ (x : X). Some x) next)
after_none {X} xs last next none is = subst (λ l. IsNextIn (or_none xs) l (option_map (λ (x : X). Some x) next)) (sym none) (next_of_none xs next is)

pub after_some : {X : Type 0} (xs : List X) (last : Option X) (x : X) (next : Option X) → last ≡ Some x → IsNextIn xs x next → IsNextIn (or_none xs) last (option_map (λ (x : X). Some x) next)
after_some {X} xs last x next some of = subst (λ l. IsNextIn (or_none xs) l (option_map (λ (x : X). Some x) next)) (sym some) (next_of_some xs x next of)

-- the edge after another, which stands at the first place above it
pub next_above : (edges : List EdgeIx) (edge : EdgeIx) (place : ℕ) (next : Option EdgeIx) → Ascend edges → AreHalves edges edge.0 place place → next ≡ slice_get edges place → IsNextIn edges edge next
next_above edges edge place next ascend halves is = record {
  each = λ before rest e. is ∙ ap (λ k. slice_get edges k) (at before rest e) ∙ ap (λ xs. slice_get xs (length before + 1)) e ∙ behind before rest;
}
  where
    behind : (before rest : List EdgeIx) → slice_get (before ++ edge ∷ rest) (length before + 1) ≡ slice_get rest 0
    behind [] rest = refl
    behind (u ∷ before) rest = let n : length (u ∷ before) + 1 ≡ suc (length before + 1) = omega arith in ap (λ k. slice_get (u ∷ (before ++ edge ∷ rest)) k) n ∙ behind before rest

    here : (before rest : List EdgeIx) → slice_get (before ++ edge ∷ rest) (length before) ≡ Some edge
    here [] rest = refl
    here (u ∷ before) rest = here before rest

    at : (before rest : List EdgeIx) → edges ≡ before ++ edge ∷ rest → place ≡ length before + 1
    at before rest e =
        let is_here : slice_get edges (length before) ≡ Some edge = ap (λ xs. slice_get xs (length before)) e ∙ here before rest in
        let above : length before < place = elim (cases_lt (length before) place) [
          | inl less ↦ less
          | inr more ↦ absurd (let bad = halves.behind (length before) edge more is_here in omega (arith, bad))
        ] in
        by before rest e is_here above (slice_get edges (length before + 1)) refl
      where
        by : (before rest : List EdgeIx) → edges ≡ before ++ edge ∷ rest → slice_get edges (length before) ≡ Some edge → length before < place → (o : Option EdgeIx) → slice_get edges (length before + 1) ≡ o → place ≡ length before + 1
        by before rest e is_here above (Some b) is_next =
            let more = ascend.each (length before) (length before + 1) edge b (omega arith) is_here is_next in
            elim (cases_lt (length before + 1) place) [
              | inl less ↦ absurd (let bad = halves.before (length before + 1) b less is_next in omega (arith, bad, more))
              | inr met ↦ omega (arith, met, above)
            ]
        by before rest e is_here above None is_next = elim (cases_lt (length before + 1) (length edges)) [
          | inl less ↦ absurd (let there = element edges (length before + 1) less in let bad : ⊥ = cc (sym there.1 ∙ is_next) in bad)
          | inr met ↦ omega (arith, met, above, halves.within)
        ]

-- numbers one by one, and what comes next among them

pub up_first : (n k : ℕ) → 0 < k → slice_get (up_from n k) 0 ≡ Some n
up_first n zero some = absurd (omega arith)
up_first n (suc k) some = refl

pub up_none : (n k : ℕ) → k ≡ 0 → slice_get (up_from n k) 0 ≡ None
up_none n zero none = refl
up_none n (suc k) none = absurd (omega arith)

pub next_number : (limit last : ℕ) → last + 1 < limit → IsNextIn (up_from 0 limit) last (Some (last + 1))
next_number limit last less = next_up limit last (Some (last + 1)) (sym (up_first (last + 1) (limit - (last + 1)) (omega arith)))

pub no_number : (limit last : ℕ) → limit ≤ last + 1 → IsNextIn (up_from 0 limit) last None
no_number limit last more = next_up limit last None (sym (up_none (last + 1) (limit - (last + 1)) (omega arith)))

-- a number more that fails a test
pub filter_past : (p : ℕ → Bool) (end n : ℕ) → n < end → p n ≡ false → filter p (up_from n (end - n)) ≡ filter p (up_from (n + 1) (end - (n + 1)))
filter_past p end n less fails =
    let count : end - n ≡ suc (end - (n + 1)) = omega arith in
    ap (λ k. filter p (up_from n k)) count ∙ rw fails refl

pub filter_here : (p : ℕ → Bool) (end n : ℕ) → n < end → p n ≡ true → slice_get (filter p (up_from n (end - n))) 0 ≡ Some n
filter_here p end n less passes =
    let count : end - n ≡ suc (end - (n + 1)) = omega arith in
    ap (λ k. slice_get (filter p (up_from n k)) 0) count ∙ rw passes refl

pub filter_end : (p : ℕ → Bool) (end n : ℕ) → end ≤ n → slice_get (filter p (up_from n (end - n))) 0 ≡ None
filter_end p end n more =
    let count : end - n ≡ 0 = omega arith in
    ap (λ k. slice_get (filter p (up_from n k)) 0) count
