-- Two lists side by side.
use Rattle.std.specs.Prelude.{◌≡◌, List, [], ◌∷◌}

-- the lists are equally long, and what stands at one place in both is so related
abbrev pub Each : {A B : Type 0} → (A → B → Type 0) → List A → List B → Type 0
Each Is [] ys = ys ≡ []
Each Is (x ∷ xs) [] = ⊥
Each Is (x ∷ xs) (y ∷ ys) = Is x y × Each Is xs ys
