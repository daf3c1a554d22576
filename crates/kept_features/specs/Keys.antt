-- Bits by the names of their features.
use Rattle.std.specs.Prelude.{◌≡◌, ◌⊎◌, ◌↔◌, ℕ, List, [], ◌∷◌}
use Rattle.meta_lines.specs.declared.types.Feature.{Feature}
use Rattle.kept_features.specs.declared.firsts.BitKey.{BitKey}
use Rattle.kept_features.specs.Firsts.{SetsBit}

-- this bit of this name is among the keys
abbrev pub HasKey : List BitKey → List ℕ → ℕ → Type 0
HasKey [] name bit = ⊥
HasKey (k ∷ ks) name bit = ((k.name.now ≡ name) × (k.bit ≡ bit)) ⊎ HasKey ks name bit

-- the keys are the bits that the features set
abbrev pub AreKeys : List Feature → List BitKey → Type 0
AreKeys fs keys = (name : List ℕ) (bit : ℕ) → HasKey keys name bit ↔ SetsBit fs name bit
