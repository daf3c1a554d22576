-- The first `meta` of a name, which alone counts.
use Rattle.std.specs.Prelude.{◌≡◌, ◌⊎◌, ℕ, List, [], ◌∷◌, Option, Some, None, Result, MatchOption, MatchResult}
use Rattle.arch_types.specs.declared.block.Meta.{Meta}
use Rattle.meta_lines.specs.declared.error.LineError.{LineError}
use Rattle.meta_lines.specs.declared.error.LineError.TheVariants.{OutOfMemory}

-- no meta has the name
abbrev pub LacksName : List ℕ → List Meta → Type 0
LacksName name [] = Unit {0}
LacksName name (meta ∷ metas) = (meta.name ≡ name → ⊥) × LacksName name metas

-- the text of the first meta of that name
abbrev pub IsFirstText : List ℕ → List Meta → List ℕ → Type 0
IsFirstText name [] text = ⊥
IsFirstText name (meta ∷ metas) text =
    ((meta.name ≡ name) × (meta.text ≡ text)) ⊎ ((meta.name ≡ name → ⊥) × IsFirstText name metas text)

-- some meta has the name
abbrev pub HasName : List ℕ → List Meta → Type 0
HasName name metas = (text : List ℕ) × IsFirstText name metas text

-- what the first meta of a name says; nothing where there is none
abbrev pub SaysFirst : {V : Type 0} → (List ℕ → V → Type 0) → List ℕ → List Meta → Option V → Type 0
SaysFirst SaysText name metas found =
    MatchOption found (LacksName name metas) (λ v. (text : List ℕ) × IsFirstText name metas text × SaysText text v)

-- what was found stays, and else the text is read
abbrev pub ReadsInto : {R V : Type 0} → (List ℕ → V → Type 0) → (List ℕ → LineError → Type 0) → List ℕ → Option V → Option V → Result R LineError → Type 0
ReadsInto {V = V} SaysText RefusesText text old new result =
    MatchResult result
    (λ _. MatchOption old ((v : V) × (new ≡ Some v) × SaysText text v) (λ v. new ≡ Some v))
    (λ e. (e ≡ OutOfMemory) ⊎ ((old ≡ None) × RefusesText text e))
