-- Words of a line behind its first one.
use Rattle.std.specs.Prelude.{ℕ, List, [], ◌∷◌, ◌++◌, slice_index_or}
use Rattle.net_types.specs.declared.atom.Conn.{Conn}

-- a blank and a word
abbrev pub spaced : List ℕ → List ℕ
spaced word = 32 ∷ word

abbrev pub name_at : List (List ℕ) → ℕ → List ℕ
name_at nets net = slice_index_or nets net []

-- the names of the nets of these connections
abbrev pub nets_text : List (List ℕ) → List Conn → List ℕ
nets_text nets [] = []
nets_text nets (conn ∷ conns) = spaced (name_at nets conn.net) ++ nets_text nets conns
