-- Numbers are given, and lists grow, in one way.
use Rattle.std.specs.Prelude.{◌≡◌, ℕ, List}
use Rattle.blif_nets.specs.Growth.{AddsAll, FindsKnown}
use Rattle.blif_nets.specs.Mentions.{NumbersAll}

abbrev pub HasOneNumbering : Type 0
HasOneNumbering = (old names new other : List (List ℕ)) (ms ns : List ℕ) → NumbersAll old names new ms → NumbersAll old names other ns → (new ≡ other) × (ms ≡ ns)

abbrev pub HasOneGrowth : Type 0 → Type 0
HasOneGrowth X = (old xs new other : List X) → AddsAll old xs new → AddsAll old xs other → new ≡ other

abbrev pub HasOneKnown : Type 0 → Type 0
HasOneKnown X = (old xs : List X) (x y : X) → FindsKnown old xs x → FindsKnown old xs y → x ≡ y

abbrev pub NeverBoth : Type 0 → Type 0
NeverBoth X = (old xs new : List X) (x : X) → AddsAll old xs new → FindsKnown old xs x → ⊥
