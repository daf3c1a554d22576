-- Maps as lists of keys with their values.
use Rattle.std.specs.Prelude.{◌≡◌, ◌↔◌, Bool, true}

-- the test on two keys is whether they are equal
abbrev pub IsEquality : {K : Type 0} → (K → K → Bool) → Type 0
IsEquality {K} eq = (x y : K) → (eq x y ≡ true) ↔ (x ≡ y)
