-- Pins of a box that are taken one by one.
use Rattle.std.specs.Prelude.{◌≡◌, ◌≤◌, ◌⊎◌, ℕ, List, [], ◌∷◌}
use Rattle.net_types.specs.declared.atom.Conn.{Conn}

-- none of these is next with a lower net
abbrev pub IsLow : ℕ → List Conn → Type 0
IsLow net [] = Unit {0}
IsLow net (conn ∷ conns) = net ≤ conn.net

abbrev pub IsInputNext : List Conn → List Conn → Type 0
IsInputNext [] outs = ⊥
IsInputNext (conn ∷ ins) outs = IsLow conn.net outs

-- the pin is taken: the first input or the first output, whose net is no higher than that of the
-- other
abbrev pub TakesPin : List Conn → List Conn → Conn → List Conn → List Conn → Type 0
TakesPin ins outs pin ins' outs' =
    ((ins ≡ pin ∷ ins') × (outs' ≡ outs) × IsLow pin.net outs)
    ⊎ ((outs ≡ pin ∷ outs') × (ins' ≡ ins) × IsLow pin.net ins)
