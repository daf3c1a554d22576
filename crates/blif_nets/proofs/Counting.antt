-- Names have one list of numbers.
use Rattle.std.proofs.Common.{◌≡◌, ◌<◌, ◌≤◌, ◌+◌, inl, inr, ℕ, Bool, true, false, Bor, List, [], ◌∷◌, ◌++◌, Option, Some, None, MatchOption, is_some, length, length-append, drop, get_or, slice_get, append_assoc, append-nil, refl, sym, ap, ◌∙◌, subst, arith}
use Rattle.std.proofs.lemmas.List.{drop_more, drop_all}
use Rattle.std.proofs.lemmas.Option.{slice_get_within}
use Rattle.vtr_base.specs.Lists.{Has, IsFirstPlace}
use Rattle.list_laws.specs.Orders.{Once}
use Rattle.list_laws.proofs.Members.{has_at, at_has}
use Rattle.list_laws.proofs.Onces.{once_at}
use Rattle.names.specs.Naming.{AddsName}
use Rattle.blif_elems.specs.Seen.{texts}
use Rattle.blif_nets.specs.Mentions.{IsNumbered, NumbersAll}
use Rattle.blif_nets.proofs.Growing.{Takes}

one_adding : (old : List (List ℕ)) (name : List ℕ) (new other : List (List ℕ)) → AddsName old name new → AddsName old name other → new ≡ other
one_adding old name new other (inl a) (inl b) = a.1 ∙ sym b.1
one_adding old name new other (inl a) (inr b) = absurd (b.0 a.0)
one_adding old name new other (inr a) (inl b) = absurd (a.0 b.0)
one_adding old name new other (inr a) (inr b) = a.1 ∙ sym b.1

one_place : (xs : List (List ℕ)) (x : List ℕ) (m n : ℕ) → IsFirstPlace xs x m → IsFirstPlace xs x n → m ≡ n
one_place xs x m n a b =
    let low : m < n → ⊥ = λ l. b.first m l a.there in
    let high : n < m → ⊥ = λ l. a.first n l b.there in
    omega (arith, low, high)

pub one_numbers : (old names new other : List (List ℕ)) (ms ns : List ℕ) → NumbersAll old names new ms → NumbersAll old names other ns → (new ≡ other) × (ms ≡ ns)
one_numbers old [] new other ms ns a b = (a.0 ∙ sym b.0, a.1 ∙ sym b.1)
one_numbers old (name ∷ names) new other ms ns a b =
    let next : a.0 ≡ b.0 = one_adding old name a.0 b.0 a.3.adds b.3.adds in
    let number : a.1 ≡ b.1 = one_place b.0 name a.1 b.1 (subst (λ l. IsFirstPlace l name a.1) next a.3.at) b.3.at in
    let rest = one_numbers b.0 names new other a.2 b.2 (subst (λ l. NumbersAll l names new a.2) next a.5) b.5 in
    (rest.0, a.4 ∙ (ap (λ n. n ∷ a.2) number ∙ (ap (λ l. b.1 ∷ l) rest.1 ∙ sym b.4)))

pub first_of : (names : List (List ℕ)) (name : List ℕ) (n : ℕ) → Once names → slice_get names n ≡ Some name → IsFirstPlace names name n
first_of names name n once at = record { there = at; first = λ k low there. (let same = once_at names once k n name there at in omega (arith, low, same)) }

no_fewer : (old : List (List ℕ)) (name : List ℕ) (new : List (List ℕ)) → AddsName old name new → length old ≤ length new
no_fewer old name new (inl known) = omega (arith, ap length known.1)
no_fewer old name new (inr added) = omega (arith, ap length added.1, length-append old (name ∷ []))

numbers_grow : (old names new : List (List ℕ)) (ns : List ℕ) → NumbersAll old names new ns → length old ≤ length new
numbers_grow old [] new ns are = omega (arith, ap length are.0)
numbers_grow old (name ∷ names) new ns are = omega (arith, no_fewer old name are.0 are.3.adds, numbers_grow are.0 names new are.2 are.5)

-- each number is that of a name
pub numbers_within : (old names new : List (List ℕ)) (ns : List ℕ) (n : ℕ) → NumbersAll old names new ns → Has ns n → n < length new
numbers_within old [] new ns n are has = absurd (subst (λ l. Has l n) are.1 has)
numbers_within old (name ∷ names) new ns n are has =
    let either : Has (are.1 ∷ are.2) n = subst (λ l. Has l n) are.4 has in
    elim either [
      | inl is ↦ omega (arith, is, slice_get_within are.0 are.1 name are.3.at.there, numbers_grow are.0 names new are.2 are.5)
      | inr later ↦ numbers_within are.0 names new are.2 n are.5 later
    ]

-- what is left of the names is numbered behind those that are
abbrev pub Numbers : List (List ℕ) → List (List ℕ) → List (List ℕ) → List (List ℕ) → List ℕ → Type 0
Numbers first names old rest before =
    (new : List (List ℕ)) (others : List ℕ) → NumbersAll old rest new others → NumbersAll first names new (before ++ others)

pub numbers_all : (first : List (List ℕ)) (words : List (Bor (List ℕ))) (none : List ℕ) → none ≡ [] → Numbers first (texts words) first (texts words) none
numbers_all first words none is new others are = subst (λ l. NumbersAll first (texts words) new (l ++ others)) (sym is) are

pub numbers_more : (first : List (List ℕ)) (words : List (Bor (List ℕ))) (old mid : List (List ℕ)) (k : ℕ) (d : Bor (List ℕ)) (before longer : List ℕ) (n : ℕ) → k < length words →
    IsNumbered old (get_or words k d).now mid n → longer ≡ before ++ n ∷ [] → Numbers first (texts words) old (texts (drop k words)) before →
    Numbers first (texts words) mid (texts (drop (k + 1) words)) longer
numbers_more first words old mid k d before longer n within is grown so_far new others are =
    let cut = ap texts (drop_more words k d within) in
    let all = so_far new (n ∷ others) (subst (λ rest. NumbersAll old rest new (n ∷ others)) (sym cut) (mid, n, others, is, refl, are)) in
    let same : longer ++ others ≡ before ++ (n ∷ others) = ap (λ l. l ++ others) grown ∙ append_assoc before (n ∷ []) others in
    subst (NumbersAll first (texts words) new) (sym same) all

pub numbers_end : (first : List (List ℕ)) (words : List (Bor (List ℕ))) (old : List (List ℕ)) (k : ℕ) (before : List ℕ) → length words ≤ k →
    Numbers first (texts words) old (texts (drop k words)) before → NumbersAll first (texts words) old before
numbers_end first words old k before whole so_far =
    subst (NumbersAll first (texts words) old) (append-nil before)
    (so_far old [] (subst (λ rest. NumbersAll old (texts rest) old []) (sym (drop_all k words whole)) (refl, refl)))

-- a name that is looked up and then added
pub known_name : (names new : List (List ℕ)) (name : List ℕ) (r : Option ℕ) → is_some r ≡ true → MatchOption r ((n : ℕ) → slice_get names n ≡ Some name → ⊥) (λ n. slice_get names n ≡ Some name) →
    Has names name
known_name names new name None some finds = absurd (cc)
known_name names new name (Some n) some finds = has_at names n name finds

pub unknown_name : (names : List (List ℕ)) (name : List ℕ) (r : Option ℕ) → is_some r ≡ false → MatchOption r ((n : ℕ) → slice_get names n ≡ Some name → ⊥) (λ n. slice_get names n ≡ Some name) →
    Has names name → ⊥
unknown_name names name None none finds has = let place = at_has names name has in finds place.0 place.1
unknown_name names name (Some n) none finds has = cc

pub new_name : (old new : List (List ℕ)) (name : List ℕ) → (Has old name → ⊥) → AddsName old name new → (Has old name → ⊥) × (new ≡ old ++ name ∷ [])
new_name old new name fresh (inl known) = absurd (fresh known.0)
new_name old new name fresh (inr added) = (fresh, added.1)
