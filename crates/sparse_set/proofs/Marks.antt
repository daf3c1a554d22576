-- The marks of a set with one number more, or one less.
use Rattle.std.proofs.Common.{◌≡◌, ◌<◌, ◌+◌, inl, inr, ℕ, zero, suc, Bool, true, false, List, [], ◌∷◌, ◌++◌, length, get_or, refl, sym, ap, ◌∙◌, subst, arith}
use Rattle.std.specs.Prelude.{◌↔◌}
use Rattle.std.proofs.Math.ListN.{set}
use Rattle.std.proofs.lemmas.List.{get_or-set_same, get_or-set_other}
use Rattle.std.proofs.lemmas.Bool.Decides.{eqb_tells}
use Rattle.vtr_base.specs.Lists.{Has, up_from}
use Rattle.list_laws.specs.Orders.{Once}
use Rattle.list_laws.proofs.Members.{has_up, has_left, has_last, has_pushed}
use Rattle.list_laws.proofs.Counting.{no_longer}

-- a number past the end isn't marked
pub past : (there : List Bool) (k : ℕ) → get_or there k false ≡ true → k < length there
past [] k is = absurd (let bad : ⊥ = cc is in bad)
past (b ∷ there) zero is = omega arith
past (b ∷ there) (suc k) is = let less = past there k is in omega arith

abbrev pub AreMarks : List Bool → List ℕ → Type 0
AreMarks there items = (number : ℕ) → (get_or there number false ≡ true) ↔ Has items number

up_long : (n k : ℕ) → length (up_from n k) ≡ k
up_long n zero = refl
up_long n (suc k) = ap suc (up_long (n + 1) k)

-- there is room for a number that isn't marked
pub room_for : (there : List Bool) (items : List ℕ) (number : ℕ) → AreMarks there items → Once items → get_or there number false ≡ false → number < length there → length items < length there
room_for there items number marks once unmarked inside =
    let apart = λ (has : Has items number). let bad : ⊥ = cc (sym unmarked ∙ (marks number).1 has) in bad in
    let few = no_longer (number ∷ items) (up_from 0 (length there)) (apart, once) (λ x has. by x has) in
    omega (arith, few, up_long 0 (length there))
  where
    by : (x : ℕ) → Has (number ∷ items) x → Has (up_from 0 (length there)) x
    by x (inl is) = has_up 0 (length there) x (omega arith) (omega (arith, is, inside))
    by x (inr has) = has_up 0 (length there) x (omega arith) (let less = past there x ((marks x).1 has) in omega (arith, less))

pub marked_more : (there : List Bool) (items : List ℕ) (number : ℕ) → AreMarks there items → number < length there → AreMarks (set there number true) (items ++ number ∷ [])
marked_more there items number marks inside k = elim (eqb_tells number k) [
  | inl same ↦ (
    λ _. subst (λ j. Has (items ++ number ∷ []) j) same.1 (has_last items number),
    λ _. ap (λ j. get_or (set there number true) j false) (sym same.1) ∙ get_or-set_same there number true false inside,
  )
  | inr apart ↦ (
      let other = get_or-set_other there number k true false (λ e. apart.1 (sym e)) in (
        λ is. has_left items (number ∷ []) k ((marks k).0 (sym other ∙ is)),
        λ has. elim (has_pushed items number k has) [
          | inl old ↦ other ∙ (marks k).1 old
          | inr last ↦ absurd (apart.1 (sym last))
        ],
      ))
]

pub once_front : {X : Type 0} (xs : List X) (y : X) → Once (xs ++ y ∷ []) → Once xs × (Has xs y → ⊥)
once_front [] y once = (tt, λ has. has)
once_front (x ∷ xs) y once =
    let later = once_front xs y once.1 in
    ((λ has. once.0 (has_left xs (y ∷ []) x has), later.0), λ has. elim has [ inl is ↦ once.0 (subst (λ z. Has (xs ++ y ∷ []) z) is (has_last xs y)) | inr more ↦ later.1 more ])

pub marked_less : (there : List Bool) (old new : List ℕ) (number : ℕ) → AreMarks there old → Once old → old ≡ new ++ number ∷ [] → AreMarks (set there number false) new
marked_less there old new number marks once is k =
    let parts = once_front new number (subst (λ xs. Once xs) is once) in
    let was = subst (λ xs. AreMarks there xs) is marks in
    let inside = past there number ((was number).1 (has_last new number)) in
    elim (eqb_tells number k) [
      | inl same ↦ (
        λ yes. absurd (let bad : ⊥ = cc (sym yes ∙ ap (λ j. get_or (set there number false) j false) (sym same.1) ∙ get_or-set_same there number false false inside) in bad),
        λ has. absurd (parts.1 (subst (λ j. Has new j) (sym same.1) has)),
      )
      | inr apart ↦ (
          let other = get_or-set_other there number k false false (λ e. apart.1 (sym e)) in (
            λ yes. elim (has_pushed new number k ((was k).0 (sym other ∙ yes))) [ inl front ↦ front | inr last ↦ absurd (apart.1 (sym last)) ],
            λ has. other ∙ (was k).1 (has_left new (number ∷ []) k has),
          ))
    ]
