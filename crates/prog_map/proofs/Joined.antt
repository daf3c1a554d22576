-- Lists whose items stand together, put together.
use Rattle.std.proofs.Common.{◌≡◌, ◌⊎◌, inl, inr, List, [], ◌∷◌, ◌++◌, refl, sym, subst}
use Rattle.std.specs.List.{flat_map}
use Rattle.vtr_base.specs.Lists.{Has}
use Rattle.list_laws.specs.Orders.{Once}
use Rattle.list_laws.proofs.Members.{has_either}
use Rattle.list_laws.proofs.Members.{FromFlat, from_flat}

-- what is above the first item and a later one is above each between them
abbrev pub AllBetween : {A N : Type 0} → (A → List N) → A → List A → Type 0
AllBetween {N = N} over x [] = Unit {0}
AllBetween {A = A} {N = N} over x (y ∷ ys) = ((z : A) (n : N) → Has ys z → Has (over x) n → Has (over z) n → Has (over y) n) × AllBetween over x ys

-- what is above two items is above each between them
abbrev pub AreTogether : {A N : Type 0} → (A → List N) → List A → Type 0
AreTogether over [] = Unit {0}
AreTogether over (x ∷ xs) = AllBetween over x xs × AreTogether over xs

all_of_second : {A N : Type 0} (over : A → List N) (x : A) (ys : List A) → ((z y : A) (n : N) → Has ys z → Has (over x) n → Has (over z) n → Has ys y → Has (over y) n) → AllBetween over x ys
all_of_second over x [] share = tt
all_of_second over x (y ∷ ys) share =
    (λ z n has up_x up_z. share z y n (inr has) up_x up_z (inl refl), all_of_second over x ys (λ z w n has up_x up_z has_w. share z w n (inr has) up_x up_z (inr has_w)))

-- all items are over the same: what two share is All, and all have All
pub together_all : {A N : Type 0} (over : A → List N) (All : N → Type 0) (xs : List A) →
    ((x : A) (n : N) → Has xs x → Has (over x) n → All n) → ((x : A) (n : N) → Has xs x → All n → Has (over x) n) → AreTogether over xs
together_all over All [] only all = tt
together_all over All (x ∷ xs) only all = (
  all_of_second over x xs (λ z y n has up_x up_z has_y. all y n (inr has_y) (only x n (inl refl) up_x)),
  together_all over All xs (λ y n has. only y n (inr has)) (λ y n has. all y n (inr has)),
)

all_of_both : {A N : Type 0} (over : A → List N) (x : A) (xs ys : List A) → AllBetween over x xs →
    ((z y : A) (n : N) → Has ys z → Has (over x) n → Has (over z) n → Has xs y ⊎ Has ys y → Has (over y) n) → AllBetween over x (xs ++ ys)
all_of_both over x [] ys old share = all_of_second over x ys (λ z y n has up_x up_z has_y. share z y n has up_x up_z (inr has_y))
all_of_both over x (y ∷ xs) ys old share = (
  λ z n has up_x up_z. elim (has_either xs ys z has) [
    | inl first ↦ old.0 z n first up_x up_z
    | inr second ↦ share z y n second up_x up_z (inl (inl refl))
  ],
  all_of_both over x xs ys old.1 (λ z w n has up_x up_z has_w. share z w n has up_x up_z (elim has_w [ inl h ↦ inl (inr h) | inr h ↦ inr h ])),
)

pub together_append : {A N : Type 0} (over : A → List N) (All : N → Type 0) (xs ys : List A) → AreTogether over xs → AreTogether over ys →
    ((x z : A) (n : N) → Has xs x → Has ys z → Has (over x) n → Has (over z) n → All n) → ((y : A) (n : N) → Has xs y ⊎ Has ys y → All n → Has (over y) n) → AreTogether over (xs ++ ys)
together_append over All [] ys first second share all = second
together_append over All (x ∷ xs) ys first second share all = (
  all_of_both over x xs ys first.0 (λ z y n has up_x up_z has_y. all y n (elim has_y [ inl h ↦ inl (inr h) | inr h ↦ inr h ]) (share x z n (inl refl) has up_x up_z)),
  together_append over All xs ys first.1 second (λ w z n has_w has. share w z n (inr has_w) has) (λ y n has_y. all y n (elim has_y [ inl h ↦ inl (inr h) | inr h ↦ inr h ])),
)

pub together_flat : {A B N : Type 0} (over : A → List N) (All : N → Type 0) (f : B → List A) (xs : List B) → Once xs →
    ((b : B) → Has xs b → AreTogether over (f b)) →
    ((b : B) (x : A) (n : N) → Has xs b → Has (f b) x → All n → Has (over x) n) →
    ((b c : B) (x y : A) (n : N) → Has xs b → Has xs c → (b ≡ c → ⊥) → Has (f b) x → Has (f c) y → Has (over x) n → Has (over y) n → All n) →
    AreTogether over (flat_map f xs)
together_flat over All f [] once each all apart = tt
together_flat over All f (b ∷ xs) once each all apart =
    together_append over All (f b) (flat_map f xs) (each b (inl refl))
    (together_flat over All f xs once.1 (λ c has. each c (inr has)) (λ c x n has. all c x n (inr has)) (λ c e x y n has_c has_e. apart c e x y n (inr has_c) (inr has_e)))
    (λ x z n in_x in_z up_x up_z.
    let later : FromFlat f xs z = from_flat f xs z in_z in
    apart b later.item x z n (inl refl) (inr later.has) (λ same. once.0 (subst (Has xs) (sym same) later.has)) in_x later.within up_x up_z)
    (λ y n in_y common. elim in_y [
      | inl here ↦ all b y n (inl refl) here common
      | inr there ↦ (let at : FromFlat f xs y = from_flat f xs y there in all at.item y n (inr at.has) at.within common)
    ])
