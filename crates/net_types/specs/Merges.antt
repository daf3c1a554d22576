-- Lists that are merged, and nets that are numbered by first mention.
use Rattle.std.specs.Prelude.{◌≡◌, ◌<◌, ◌⊎◌, ℕ, suc, List, [], ◌∷◌}

-- the elements of both lists, those of each in their order
abbrev pub IsMerge : {X : Type 0} → List X → List X → List X → Type 0
IsMerge xs ys [] = (xs ≡ []) × (ys ≡ [])
IsMerge {X} xs ys (z ∷ zs) =
    ((rest : List X) × (xs ≡ z ∷ rest) × IsMerge rest ys zs)
    ⊎ ((rest : List X) × (ys ≡ z ∷ rest) × IsMerge xs rest zs)

-- where the nets below `known` were mentioned, each of these mentions is of one that was mentioned
-- or of the next one; then those below `next` are
abbrev pub Mention : ℕ → List ℕ → ℕ → Type 0
Mention known [] next = next ≡ known
Mention known (net ∷ nets) next =
    ((net < known) × Mention known nets next) ⊎ ((net ≡ known) × Mention (suc known) nets next)
