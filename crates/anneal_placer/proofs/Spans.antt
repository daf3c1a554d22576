-- The span of numbers: by their least and greatest, of fewer numbers, and of one more.
use Rattle.std.proofs.Common.{◌≡◌, ◌⊎◌, ◌≤◌, ◌+◌, ◌-◌, ℕ, min, max, List, [], ◌∷◌, ◌++◌, arith, sym, subst, inl, inr}
use Rattle.std.specs.List.{Contains}
use Rattle.std.proofs.lemmas.Bool.{cases_lt}
use Rattle.std.proofs.lemmas.List.Elements.{Contains-append_left, Contains-push, Contains-push_cases}
use Rattle.anneal_placer.specs.Cost.{least, greatest, span}
use Rattle.anneal_placer.specs.Rects.{IsRange, Bounds}
use Rattle.anneal_placer.specs.declared.rect.Rect.{Rect}
use Rattle.anneal_placer.proofs.Members.{in_first, in_rest, first_or_rest}

pub one : (x : ℕ) → IsRange (x ∷ []) x x
one x = record {
  above = λ value there. omega (arith, is value there);
  below = λ value there. omega (arith, is value there);
  least = in_first x [];
  greatest = in_first x [];
}
  where
    is : (value : ℕ) → Contains (x ∷ []) value → x ≡ value
    is value there = elim (first_or_rest x [] value there) [ inl same ↦ same | inr (k, inside, _) ↦ absurd (omega arith) ]

-- with one more number
pub more : (values new : List ℕ) (low high x : ℕ) → IsRange values low high → ((value : ℕ) → Contains new value → Contains values value ⊎ (x ≡ value)) →
    ((value : ℕ) → Contains values value → Contains new value) → Contains new x → IsRange new (min low x) (max high x)
more values new low high x r cases keeps there = record {
  above = λ value inside. elim (cases value inside) [ inl old ↦ (let le : low ≤ value = r.above value old in omega arith) | inr is ↦ omega (arith, is) ];
  below = λ value inside. elim (cases value inside) [ inl old ↦ (let le : value ≤ high = r.below value old in omega arith) | inr is ↦ omega (arith, is) ];
  least =
      elim (cases_lt low x) [
        | inl less ↦ (let e : low ≡ min low x = omega arith in subst (Contains new) e (keeps low r.least))
        | inr most ↦ (let e : x ≡ min low x = omega arith in subst (Contains new) e there)
      ];
  greatest =
      elim (cases_lt high x) [
        | inl less ↦ (let e : x ≡ max high x = omega arith in subst (Contains new) e there)
        | inr most ↦ (let e : high ≡ max high x = omega arith in subst (Contains new) e (keeps high r.greatest))
      ];
}

pub pushed : (values : List ℕ) (low high x : ℕ) → IsRange values low high → IsRange (values ++ x ∷ []) (min low x) (max high x)
pushed values low high x r =
    more values (values ++ x ∷ []) low high x r (λ value there. Contains-push_cases values x value there)
    (λ value there. Contains-append_left values (x ∷ []) value there) (Contains-push values x)

ranged : (x : ℕ) (xs : List ℕ) → IsRange (x ∷ xs) (least x xs) (greatest x xs)
ranged x [] = one x
ranged x (y ∷ ys) =
    let r = more (x ∷ ys) (x ∷ y ∷ ys) (least x ys) (greatest x ys) y (ranged x ys) cases keeps (in_rest x (y ∷ ys) y (in_first y ys)) in
    let low : min (least x ys) y ≡ min y (least x ys) = omega arith in
    let high : max (greatest x ys) y ≡ max y (greatest x ys) = omega arith in
    subst (λ m. IsRange (x ∷ y ∷ ys) m (max y (greatest x ys))) low (subst (λ m. IsRange (x ∷ y ∷ ys) (min (least x ys) y) m) high r)
  where
    cases : (value : ℕ) → Contains (x ∷ y ∷ ys) value → Contains (x ∷ ys) value ⊎ (y ≡ value)
    cases value there = elim (first_or_rest x (y ∷ ys) value there) [
      | inl is ↦ inl (subst (λ z. Contains (z ∷ ys) value) (sym is) (in_first value ys))
      | inr rest ↦ elim (first_or_rest y ys value rest) [ inl is ↦ inr is | inr later ↦ inl (in_rest x ys value later) ]
    ]

    keeps : (value : ℕ) → Contains (x ∷ ys) value → Contains (x ∷ y ∷ ys) value
    keeps value there = elim (first_or_rest x ys value there) [
      | inl is ↦ subst (λ z. Contains (z ∷ y ∷ ys) value) (sym is) (in_first value (y ∷ ys))
      | inr rest ↦ in_rest x (y ∷ ys) value (in_rest y ys value rest)
    ]

pub span_is : (values : List ℕ) (low high : ℕ) → IsRange values low high → span values ≡ high - low
span_is [] low high r = none r.least
  where
    none : Contains [] low → 0 ≡ high - low
    none (k, inside, _) = absurd (omega arith)
span_is (x ∷ xs) low high r =
    let q = ranged x xs in
    let a : least x xs ≤ low = q.above low r.least in
    let b : low ≤ least x xs = r.above (least x xs) q.least in
    let c : high ≤ greatest x xs = q.below high r.greatest in
    let d : greatest x xs ≤ high = r.below (greatest x xs) q.greatest in
    omega arith

-- fewer numbers
pub within : (values all : List ℕ) → ((value : ℕ) → Contains values value → Contains all value) → span values ≤ span all
within [] all inside = omega arith
within (x ∷ xs) [] inside = none (inside x (in_first x xs))
  where
    none : Contains [] x → span (x ∷ xs) ≤ 0
    none (k, below, _) = absurd (omega arith)
within (x ∷ xs) (y ∷ ys) inside =
    let q = ranged x xs in
    let r = ranged y ys in
    let a : least y ys ≤ least x xs = r.above (least x xs) (inside (least x xs) q.least) in
    let b : greatest x xs ≤ greatest y ys = r.below (greatest x xs) (inside (greatest x xs) q.greatest) in
    omega arith

-- one more number makes the span larger by how far it lies outside
pub reach : (others all : List ℕ) (low high x : ℕ) → IsRange others low high → ((value : ℕ) → Contains all value → Contains others value ⊎ (x ≡ value)) →
    ((value : ℕ) → Contains others value → Contains all value) → Contains all x → span all ≡ span others + ((low - x) + (x - high))
reach others all low high x r cases keeps there =
    let new = span_is all (min low x) (max high x) (more others all low high x r cases keeps there) in
    let old = span_is others low high r in
    let order : low ≤ high = r.below low r.least in
    omega (arith, new, old, order)

-- and nothing else
pub alone : (all : List ℕ) (x : ℕ) → ((value : ℕ) → Contains all value → x ≡ value) → span all ≡ 0
alone all x is =
    let le : span all ≤ span (x ∷ []) = within all (x ∷ []) (λ value there. subst (λ z. Contains (x ∷ []) z) (is value there) (in_first x [])) in
    omega arith

pub bounds_pushed : (xs ys : List ℕ) (rect new : Rect) (x y : ℕ) → Bounds xs ys rect →
    new.columns.low ≡ min rect.columns.low x → new.columns.high ≡ max rect.columns.high x →
    new.rows.low ≡ min rect.rows.low y → new.rows.high ≡ max rect.rows.high y → Bounds (xs ++ x ∷ []) (ys ++ y ∷ []) new
bounds_pushed xs ys rect new x y b columns_low columns_high rows_low rows_high = record {
  columns = rw (columns_low, columns_high) (pushed xs rect.columns.low rect.columns.high x b.columns);
  rows = rw (rows_low, rows_high) (pushed ys rect.rows.low rect.rows.high y b.rows);
}

pub bounds_one : (xs ys : List ℕ) (new : Rect) (x y : ℕ) → xs ≡ [] → ys ≡ [] →
    new.columns.low ≡ x → new.columns.high ≡ x → new.rows.low ≡ y → new.rows.high ≡ y → Bounds (xs ++ x ∷ []) (ys ++ y ∷ []) new
bounds_one xs ys new x y none_x none_y columns_low columns_high rows_low rows_high = record {
  columns = rw (none_x, columns_low, columns_high) (one x);
  rows = rw (none_y, rows_low, rows_high) (one y);
}
