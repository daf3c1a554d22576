-- How many nets are mentioned, where nets are numbered by first mention.
use Rattle.std.specs.Prelude.{◌+◌, ℕ, max, List, [], ◌∷◌}
use Rattle.net_types.specs.declared.atom.Atom.{Atom}
use Rattle.net_types.specs.Order.{nets_of}

-- the least number that isn't below `known` and is above all these nets
abbrev pub top : ℕ → List ℕ → ℕ
top known [] = known
top known (net ∷ nets) = top (max known (net + 1)) nets

-- the same for all nets of an atom
abbrev pub top_of : ℕ → Atom → ℕ
top_of known atom = top (top known (nets_of atom.ins)) (nets_of atom.outs)
