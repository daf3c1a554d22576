-- Features of which each bit stands once.
use Rattle.std.specs.Prelude.{◌≡◌, ◌⊎◌, ℕ, List, [], ◌∷◌, ◌++◌}
use Rattle.meta_lines.specs.declared.types.Feature.{Feature}

-- some feature of the list is this bit of this name
abbrev pub SetsBit : List Feature → List ℕ → ℕ → Type 0
SetsBit [] name bit = ⊥
SetsBit (f ∷ fs) name bit = ((f.name ≡ name) × (f.bit ≡ bit)) ⊎ SetsBit fs name bit

-- behind these features, those of the others are kept that set a bit that none before them sets
abbrev pub KeepsBehind : List Feature → List Feature → List Feature → Type 0
KeepsBehind before [] kept = kept ≡ []
KeepsBehind before (f ∷ fs) kept =
    (SetsBit before f.name f.bit × KeepsBehind (before ++ f ∷ []) fs kept)
    ⊎ ((SetsBit before f.name f.bit → ⊥) × ((rest : List Feature) × (kept ≡ f ∷ rest) × KeepsBehind (before ++ f ∷ []) fs rest))

-- of the features that set the same bit the first is kept, and the order stays
abbrev pub KeepsFirsts : List Feature → List Feature → Type 0
KeepsFirsts fs kept = KeepsBehind [] fs kept
