-- There is room for each decision that is free: no two speak of one slot, of which there are two for each instance and each pin.
use Rattle.std.proofs.Common.{◌≡◌, ◌<◌, ◌≤◌, ◌+◌, ◌*◌, ◌==◌, inl, inr, ℕ, zero, suc, false, List, [], ◌∷◌, Option, Some, None, map, length, refl, sym, ap, ◌∙◌, subst, arith}
use Rattle.std.proofs.lemmas.Bool.Decides.{eqb_tells}
use Rattle.std.proofs.lemmas.List.{length-map}
use Rattle.vtr_base.specs.Lists.{Has, up_from}
use Rattle.list_laws.specs.Orders.{Once}
use Rattle.list_laws.proofs.Members.{from_map, has_up}
use Rattle.list_laws.proofs.Counting.{no_longer}
use Rattle.pb_expand.specs.declared.number.PinIx.{PinIx}
use Rattle.pb_expand.specs.declared.number.EdgeIx.{EdgeIx}
use Rattle.task_types.specs.declared.decision.Decision.{Decision}
use Rattle.task_types.specs.declared.decision.Decision.TheVariants as decision
use Rattle.task_types.specs.Decisions.{mode_in, occupant_in, edge_in, entry_in}
use Rattle.task_trail.specs.Decided.{decided_on, IsFree}
use Rattle.task_trail.specs.Tied.{AreFree}

abbrev slot_of : ℕ → ℕ → Decision → ℕ
slot_of n m (decision.Mode pb mode) = pb.0
slot_of n m (decision.Occupant pb occupant) = n + pb.0
slot_of n m (decision.Edge pin mode edge) = n + n + pin.0
slot_of n m (decision.Entry pin net) = n + n + m + pin.0

slot_inside : (n m a : ℕ) (made : List Decision) (d : Decision) → IsFree (decided_on made n m a) d → slot_of n m d < (n + m) * 2
slot_inside n m a made (decision.Mode pb mode) free = omega (arith, free.0)
slot_inside n m a made (decision.Occupant pb occupant) free = omega (arith, free.0)
slot_inside n m a made (decision.Edge pin mode edge) free = omega (arith, free.0)
slot_inside n m a made (decision.Entry pin net) free = omega (arith, free.0)

found_edge : (q : PinIx) (k : ℕ) (o : Option EdgeIx) (made : List Decision) (x : ℕ) → q.0 ≡ x → edge_in (decision.Edge q k o ∷ made) x k ≡ Some o
found_edge q k o made x same = elim (eqb_tells q.0 x) [
  | inl pins ↦ elim (eqb_tells k k) [
    | inl modes ↦ rw (pins.0, modes.0) refl
    | inr apart ↦ absurd (apart.1 refl)
  ]
  | inr apart ↦ absurd (apart.1 same)
]

passed_edge : (q : PinIx) (k : ℕ) (o : Option EdgeIx) (made : List Decision) (x mode : ℕ) → (q.0 == x) ≡ false → edge_in (decision.Edge q k o ∷ made) x mode ≡ None → edge_in made x mode ≡ None
passed_edge q k o made x mode apart none = rw apart at none

mode_apart : (n m a : ℕ) (made : List Decision) (x : ℕ) → x < n → AreFree n m a made → mode_in made x ≡ None → (e : Decision) → Has made e → slot_of n m e ≡ x → ⊥
mode_apart n m a [] x low free none e has same = absurd has
mode_apart n m a (decision.Mode q k ∷ made) x low free none e (inl is) same =
    let here : q.0 ≡ x = ap (λ d. slot_of n m d) (sym is) ∙ same in
    elim (eqb_tells q.0 x) [
      | inl same ↦ (let bad : ⊥ = cc (rw same.0 at none) in bad)
      | inr apart ↦ apart.1 (omega (arith, here))
    ]
mode_apart n m a (decision.Mode q k ∷ made) x low free none e (inr has) same = elim (eqb_tells q.0 x) [
  | inl same ↦ (let bad : ⊥ = cc (rw same.0 at none) in bad)
  | inr apart ↦ mode_apart n m a made x low free.1 (rw apart.0 at none) e has same
]
mode_apart n m a (decision.Occupant q o ∷ made) x low free none e (inl is) same =
    let here : n + q.0 ≡ x = ap (λ d. slot_of n m d) (sym is) ∙ same in absurd (omega (arith, here, low, free.0.0))
mode_apart n m a (decision.Occupant q o ∷ made) x low free none e (inr has) same = mode_apart n m a made x low free.1 none e has same
mode_apart n m a (decision.Edge q k o ∷ made) x low free none e (inl is) same =
    let here : n + n + q.0 ≡ x = ap (λ d. slot_of n m d) (sym is) ∙ same in absurd (omega (arith, here, low, free.0.0))
mode_apart n m a (decision.Edge q k o ∷ made) x low free none e (inr has) same = mode_apart n m a made x low free.1 none e has same
mode_apart n m a (decision.Entry q o ∷ made) x low free none e (inl is) same =
    let here : n + n + m + q.0 ≡ x = ap (λ d. slot_of n m d) (sym is) ∙ same in absurd (omega (arith, here, low, free.0.0))
mode_apart n m a (decision.Entry q o ∷ made) x low free none e (inr has) same = mode_apart n m a made x low free.1 none e has same

occupant_apart : (n m a : ℕ) (made : List Decision) (x : ℕ) → x < n → AreFree n m a made → occupant_in made x ≡ None → (e : Decision) → Has made e → slot_of n m e ≡ n + x → ⊥
occupant_apart n m a [] x low free none e has same = absurd has
occupant_apart n m a (decision.Mode q k ∷ made) x low free none e (inl is) same =
    let here : q.0 ≡ n + x = ap (λ d. slot_of n m d) (sym is) ∙ same in absurd (omega (arith, here, low, free.0.0))
occupant_apart n m a (decision.Mode q k ∷ made) x low free none e (inr has) same = occupant_apart n m a made x low free.1 none e has same
occupant_apart n m a (decision.Occupant q o ∷ made) x low free none e (inl is) same =
    let here : n + q.0 ≡ n + x = ap (λ d. slot_of n m d) (sym is) ∙ same in
    elim (eqb_tells q.0 x) [
      | inl same ↦ (let bad : ⊥ = cc (rw same.0 at none) in bad)
      | inr apart ↦ apart.1 (omega (arith, here))
    ]
occupant_apart n m a (decision.Occupant q o ∷ made) x low free none e (inr has) same = elim (eqb_tells q.0 x) [
  | inl same ↦ (let bad : ⊥ = cc (rw same.0 at none) in bad)
  | inr apart ↦ occupant_apart n m a made x low free.1 (rw apart.0 at none) e has same
]
occupant_apart n m a (decision.Edge q k o ∷ made) x low free none e (inl is) same =
    let here : n + n + q.0 ≡ n + x = ap (λ d. slot_of n m d) (sym is) ∙ same in absurd (omega (arith, here, low, free.0.0))
occupant_apart n m a (decision.Edge q k o ∷ made) x low free none e (inr has) same = occupant_apart n m a made x low free.1 none e has same
occupant_apart n m a (decision.Entry q o ∷ made) x low free none e (inl is) same =
    let here : n + n + m + q.0 ≡ n + x = ap (λ d. slot_of n m d) (sym is) ∙ same in absurd (omega (arith, here, low, free.0.0))
occupant_apart n m a (decision.Entry q o ∷ made) x low free none e (inr has) same = occupant_apart n m a made x low free.1 none e has same

edge_apart : (n m a : ℕ) (made : List Decision) (x : ℕ) → x < m → AreFree n m a made → ((mode : ℕ) → edge_in made x mode ≡ None) → (e : Decision) → Has made e → slot_of n m e ≡ n + n + x → ⊥
edge_apart n m a [] x low free none e has same = absurd has
edge_apart n m a (decision.Mode q k ∷ made) x low free none e (inl is) same =
    let here : q.0 ≡ n + n + x = ap (λ d. slot_of n m d) (sym is) ∙ same in absurd (omega (arith, here, low, free.0.0))
edge_apart n m a (decision.Mode q k ∷ made) x low free none e (inr has) same = edge_apart n m a made x low free.1 none e has same
edge_apart n m a (decision.Occupant q o ∷ made) x low free none e (inl is) same =
    let here : n + q.0 ≡ n + n + x = ap (λ d. slot_of n m d) (sym is) ∙ same in absurd (omega (arith, here, low, free.0.0))
edge_apart n m a (decision.Occupant q o ∷ made) x low free none e (inr has) same = edge_apart n m a made x low free.1 none e has same
edge_apart n m a (decision.Edge q k o ∷ made) x low free none e (inl is) same =
    let here : n + n + q.0 ≡ n + n + x = ap (λ d. slot_of n m d) (sym is) ∙ same in
    let pins : q.0 ≡ x = omega (arith, here) in
    let found : edge_in (decision.Edge q k o ∷ made) x k ≡ Some o = found_edge q k o made x pins in
    let bad : ⊥ = cc (sym found ∙ none k) in bad
edge_apart n m a (decision.Edge q k o ∷ made) x low free none e (inr has) same = elim (eqb_tells q.0 x) [
  | inl here ↦ (let found : edge_in (decision.Edge q k o ∷ made) x k ≡ Some o = found_edge q k o made x here.1 in let bad : ⊥ = cc (sym found ∙ none k) in bad)
  | inr apart ↦ edge_apart n m a made x low free.1 (λ mode. passed_edge q k o made x mode apart.0 (none mode)) e has same
]
edge_apart n m a (decision.Entry q o ∷ made) x low free none e (inl is) same =
    let here : n + n + m + q.0 ≡ n + n + x = ap (λ d. slot_of n m d) (sym is) ∙ same in absurd (omega (arith, here, low, free.0.0))
edge_apart n m a (decision.Entry q o ∷ made) x low free none e (inr has) same = edge_apart n m a made x low free.1 none e has same

entry_apart : (n m a : ℕ) (made : List Decision) (x : ℕ) → x < m → AreFree n m a made → entry_in made x ≡ None → (e : Decision) → Has made e → slot_of n m e ≡ n + n + m + x → ⊥
entry_apart n m a [] x low free none e has same = absurd has
entry_apart n m a (decision.Mode q k ∷ made) x low free none e (inl is) same =
    let here : q.0 ≡ n + n + m + x = ap (λ d. slot_of n m d) (sym is) ∙ same in absurd (omega (arith, here, low, free.0.0))
entry_apart n m a (decision.Mode q k ∷ made) x low free none e (inr has) same = entry_apart n m a made x low free.1 none e has same
entry_apart n m a (decision.Occupant q o ∷ made) x low free none e (inl is) same =
    let here : n + q.0 ≡ n + n + m + x = ap (λ d. slot_of n m d) (sym is) ∙ same in absurd (omega (arith, here, low, free.0.0))
entry_apart n m a (decision.Occupant q o ∷ made) x low free none e (inr has) same = entry_apart n m a made x low free.1 none e has same
entry_apart n m a (decision.Edge q k o ∷ made) x low free none e (inl is) same =
    let here : n + n + q.0 ≡ n + n + m + x = ap (λ d. slot_of n m d) (sym is) ∙ same in absurd (omega (arith, here, low, free.0.0))
entry_apart n m a (decision.Edge q k o ∷ made) x low free none e (inr has) same = entry_apart n m a made x low free.1 none e has same
entry_apart n m a (decision.Entry q o ∷ made) x low free none e (inl is) same =
    let here : n + n + m + q.0 ≡ n + n + m + x = ap (λ d. slot_of n m d) (sym is) ∙ same in
    elim (eqb_tells q.0 x) [
      | inl same ↦ (let bad : ⊥ = cc (rw same.0 at none) in bad)
      | inr apart ↦ apart.1 (omega (arith, here))
    ]
entry_apart n m a (decision.Entry q o ∷ made) x low free none e (inr has) same = elim (eqb_tells q.0 x) [
  | inl same ↦ (let bad : ⊥ = cc (rw same.0 at none) in bad)
  | inr apart ↦ entry_apart n m a made x low free.1 (rw apart.0 at none) e has same
]

-- a free decision speaks of no slot of those that were made
slot_apart : (n m a : ℕ) (made : List Decision) (d : Decision) → AreFree n m a made → IsFree (decided_on made n m a) d → (e : Decision) → Has made e → slot_of n m d ≡ slot_of n m e → ⊥
slot_apart n m a made (decision.Mode pb mode) are free e has same = mode_apart n m a made pb.0 free.0 are free.1 e has (sym same)
slot_apart n m a made (decision.Occupant pb o) are free e has same = occupant_apart n m a made pb.0 free.0 are free.1 e has (sym same)
slot_apart n m a made (decision.Edge pin mode o) are free e has same = edge_apart n m a made pin.0 free.0 are free.1 e has (sym same)
slot_apart n m a made (decision.Entry pin o) are free e has same = entry_apart n m a made pin.0 free.0 are free.1 e has (sym same)

slots_once : (n m a : ℕ) (made : List Decision) → AreFree n m a made → Once (map (λ d. slot_of n m d) made)
slots_once n m a [] free = tt
slots_once n m a (d ∷ made) free = (
  λ has. let e = from_map (λ d. slot_of n m d) made (slot_of n m d) has in slot_apart n m a made d free.1 free.0 e.item e.has e.is,
  slots_once n m a made free.1,
)

slots_inside : (n m a : ℕ) (made : List Decision) → AreFree n m a made → (e : Decision) → Has made e → slot_of n m e < (n + m) * 2
slots_inside n m a [] free e has = absurd has
slots_inside n m a (d ∷ made) free e (inl is) = subst (λ x. slot_of n m x < (n + m) * 2) (sym is) (slot_inside n m a made d free.0)
slots_inside n m a (d ∷ made) free e (inr has) = slots_inside n m a made free.1 e has

up_long : (n k : ℕ) → length (up_from n k) ≡ k
up_long n zero = refl
up_long n (suc k) = ap suc (up_long (n + 1) k)

-- so decisions that are free one after the other are no more than the slots
pub no_more_slots : (n m a : ℕ) (made : List Decision) → AreFree n m a made → length made ≤ (n + m) * 2
no_more_slots n m a made free =
    let few = no_longer (map (λ d. slot_of n m d) made) (up_from 0 ((n + m) * 2)) (slots_once n m a made free)
    (λ x has. let e = from_map (λ d. slot_of n m d) made x has in
    let inside = slots_inside n m a made free e.item e.has in
    has_up 0 ((n + m) * 2) x (omega arith) (omega (arith, inside, e.is))) in
    omega (arith, few, up_long 0 ((n + m) * 2), length-map made (λ d. slot_of n m d))

pub room_for_one : (n m a : ℕ) (made : List Decision) (d : Decision) → AreFree n m a made → IsFree (decided_on made n m a) d → length made < (n + m) * 2
room_for_one n m a made d are free = let few = no_more_slots n m a (d ∷ made) (free, are) in omega (arith, few)
