-- Lists to which elements are added that don't stand there yet.
use Rattle.std.specs.Prelude.{◌≡◌, ◌⊎◌, List, [], ◌∷◌, ◌++◌}
use Rattle.vtr_base.specs.Lists.{Has}

-- the elements come behind the others, and none of them stood there or comes twice
abbrev pub AddsAll : {X : Type 0} → List X → List X → List X → Type 0
AddsAll old [] new = new ≡ old
AddsAll old (x ∷ xs) new = (Has old x → ⊥) × AddsAll (old ++ x ∷ []) xs new

-- the first of the elements that stands there already, or comes again
abbrev pub FindsKnown : {X : Type 0} → List X → List X → X → Type 0
FindsKnown old [] known = ⊥
FindsKnown old (x ∷ xs) known =
    (Has old x × (known ≡ x)) ⊎ ((Has old x → ⊥) × FindsKnown (old ++ x ∷ []) xs known)

-- one of the elements stands there already, or comes twice
abbrev pub HasKnown : {X : Type 0} → List X → List X → Type 0
HasKnown {X} old xs = (known : X) × FindsKnown old xs known
