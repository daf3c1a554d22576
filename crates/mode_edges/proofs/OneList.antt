-- A mode has one list of edges: two lists with the same elements in one strict order are equal.
use Rattle.std.proofs.Common.{◌≡◌, ◌<◌, ◌⊎◌, inl, inr, ℕ, suc, List, [], ◌∷◌, Some, slice_get, refl, sym, ◌∙◌, ap, subst, arith}
use Rattle.vtr_base.specs.Lists.{Has}
use Rattle.arch_types.specs.declared.block.PbType.{PbType}
use Rattle.arch_types.specs.declared.block.Mode.{Mode}
use Rattle.mode_edges.specs.declared.pin.LocalEdge.{LocalEdge}
use Rattle.mode_edges.specs.Edges.{EdgePlace, IsBefore, StandsAt, StandsBefore, AreEdges}

-- of two places one is before the other, or they are one
three_ways : (m n : ℕ) → (m < n) ⊎ (n < m) ⊎ (m ≡ n)
three_ways m n = grind arith

same_place : (p q : EdgePlace) → p.inter ≡ q.inter → p.source ≡ q.source → p.end ≡ q.end → p ≡ q
same_place p q inter source end =
    ap (λ (n : ℕ). place n p.source p.end) inter ∙ (ap (λ (n : ℕ). place q.inter n p.end) source ∙ ap (place q.inter q.source) end)
  where
    place : ℕ → ℕ → ℕ → EdgePlace
    place i s e = record { inter = i; source = s; end = e }

one_way : (p q : EdgePlace) → IsBefore p q ⊎ IsBefore q p ⊎ (p ≡ q)
one_way p q = elim (three_ways p.inter q.inter) [
  | inl less ↦ inl (inl less)
  | inr (inl more) ↦ inr (inl (inl more))
  | inr (inr inter) ↦ elim (three_ways p.source q.source) [
    | inl less ↦ inl (inr (inter, inl less))
    | inr (inl more) ↦ inr (inl (inr (sym inter, inl more)))
    | inr (inr source) ↦ elim (three_ways p.end q.end) [
      | inl less ↦ inl (inr (inter, inr (source, less)))
      | inr (inl more) ↦ inr (inl (inr (sym inter, inr (sym source, more))))
      | inr (inr end) ↦ inr (inr (same_place p q inter source end))
    ]
  ]
]

pub not_both_before : (p q : EdgePlace) → IsBefore p q → IsBefore q p → ⊥
not_both_before p q (inl a) (inl b) = omega arith
not_both_before p q (inl a) (inr (same, b)) = omega arith
not_both_before p q (inr (same, a)) (inl b) = omega arith
not_both_before p q (inr (same, inl a)) (inr (again, inl b)) = omega arith
not_both_before p q (inr (same, inl a)) (inr (again, inr (source, b))) = omega arith
not_both_before p q (inr (same, inr (source, a))) (inr (again, inl b)) = omega arith
not_both_before p q (inr (same, inr (source, a))) (inr (again, inr (other, b))) = omega arith

-- an edge has one place
one_place : (block : PbType) (mode : Mode) (e : LocalEdge) (p q : EdgePlace) → StandsAt block mode e p → StandsAt block mode e q → p ≡ q
one_place block mode e p q a b = elim (one_way p q) [
  | inl before ↦ absurd (b.first p before a.gives)
  | inr (inl behind) ↦ absurd (a.first q behind b.gives)
  | inr (inr same) ↦ same
]

opposed : (block : PbType) (mode : Mode) (e f : LocalEdge) → StandsBefore block mode e f → StandsBefore block mode f e → ⊥
opposed block mode e f a b =
    let e_is = one_place block mode e b.next a.at b.follows a.stands in
    let f_is = one_place block mode f b.at a.next b.stands a.follows in
    not_both_before a.at a.next a.before
    (subst (λ (p : EdgePlace). IsBefore p a.at) f_is (subst (λ (p : EdgePlace). IsBefore b.at p) e_is b.before))

abbrev Ranked : PbType → Mode → List LocalEdge → Type 0
Ranked block mode [] = Unit {0}
Ranked block mode (x ∷ xs) = ((y : LocalEdge) → Has xs y → StandsBefore block mode x y) × Ranked block mode xs

pub place_in : {X : Type 0} (xs : List X) (x : X) → Has xs x → (n : ℕ) × (slice_get xs n ≡ Some x)
place_in [] x h = absurd h
place_in (y ∷ xs) x (inl is) = (0, ap Some (sym is))
place_in (y ∷ xs) x (inr h) = let more = place_in xs x h in (suc more.0, more.1)

ranked : (block : PbType) (mode : Mode) (xs : List LocalEdge) →
    ((i j : ℕ) (e f : LocalEdge) → i < j → slice_get xs i ≡ Some e → slice_get xs j ≡ Some f → StandsBefore block mode e f) → Ranked block mode xs
ranked block mode [] ordered = tt
ranked block mode (x ∷ xs) ordered = (
  λ y h. let at = place_in xs y h in ordered 0 (suc at.0) x y (omega arith) refl at.1,
  ranked block mode xs (λ i j e f less at_i at_j. ordered (suc i) (suc j) e f (omega (arith, less)) at_i at_j),
)

same_ranked : (block : PbType) (mode : Mode) (xs ys : List LocalEdge) → Ranked block mode xs → Ranked block mode ys → ((e : LocalEdge) → Has xs e → Has ys e) →
    ((e : LocalEdge) → Has ys e → Has xs e) → xs ≡ ys
same_ranked block mode [] [] a b there back = refl
same_ranked block mode [] (y ∷ ys) a b there back = absurd (back y (inl refl))
same_ranked block mode (x ∷ xs) [] a b there back = absurd (there x (inl refl))
same_ranked block mode (x ∷ xs) (y ∷ ys) a b there back =
    let rest = same_ranked block mode xs ys a.1 b.1 in_ys in_xs in
    cc (first, rest)
  where
    first : x ≡ y
    first = elim (there x (inl refl)) [
      | inl is ↦ is
      | inr later ↦ elim (back y (inl refl)) [ inl is ↦ sym is | inr other ↦ absurd (opposed block mode x y (a.0 y other) (b.0 x later)) ]
    ]

    in_ys : (e : LocalEdge) → Has xs e → Has ys e
    in_ys e h = elim (there e (inr h)) [
      | inl is ↦ let self = subst (StandsBefore block mode x) (is ∙ sym first) (a.0 e h) in absurd (opposed block mode x x self self)
      | inr later ↦ later
    ]

    in_xs : (e : LocalEdge) → Has ys e → Has xs e
    in_xs e h = elim (back e (inr h)) [
      | inl is ↦ let self = subst (StandsBefore block mode y) (is ∙ first) (b.0 e h) in absurd (opposed block mode y y self self)
      | inr later ↦ later
    ]

shared : (block : PbType) (mode : Mode) (xs ys : List LocalEdge) → AreEdges block mode xs → AreEdges block mode ys → (e : LocalEdge) → Has xs e → Has ys e
shared block mode xs ys a b e h = b.all e.inter e.src e.dst (a.each e h)

pub list_one : (block : PbType) (mode : Mode) (xs ys : List LocalEdge) → AreEdges block mode xs → AreEdges block mode ys → xs ≡ ys
list_one block mode xs ys a b =
    same_ranked block mode xs ys (ranked block mode xs a.ordered) (ranked block mode ys b.ordered) (shared block mode xs ys a b) (shared block mode ys xs b a)
