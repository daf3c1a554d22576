-- The names of atoms.
use Rattle.std.specs.Prelude.{◌≡◌, ◌⊎◌, ℕ, List, [], ◌∷◌, ◌++◌, Some, codes, count_by, slice_get, take}
use Rattle.std.specs.Fmt.{decimal}
use Rattle.arch_types.specs.declared.block.AtomKind.{AtomKind}
use Rattle.arch_types.specs.declared.block.AtomKind.TheVariants.{InPad, OutPad, Lut, Latch, Cell}
use Rattle.net_types.specs.declared.atom.Atom.{Atom}
use Rattle.net_types.specs.declared.atom.Conn.{Conn}
use Rattle.net_types.specs.Atoms.{is_box}

-- the name of the net of the first connection
abbrev pub IsFirstNet : List (List ℕ) → List Conn → List ℕ → Type 0
IsFirstNet nets [] name = ⊥
IsFirstNet nets (conn ∷ conns) name = slice_get nets conn.net ≡ Some name

-- an output has `out:` in front of the name of its net
abbrev pub IsOutName : List (List ℕ) → Atom → Type 0
IsOutName nets atom =
    (net : List ℕ) × IsFirstNet nets atom.ins net × (atom.name ≡ codes "out:" ++ net)

-- a box without a connected output is told by its place among the boxes
abbrev pub IsBoxName : List (List ℕ) → ℕ → Atom → Type 0
IsBoxName nets boxes atom =
    IsFirstNet nets atom.outs atom.name
    ⊎ ((atom.outs ≡ []) × (atom.name ≡ codes "box:" ++ decimal boxes))

-- the name of an atom of this kind, before which so many boxes stand
abbrev pub FitsName : List (List ℕ) → ℕ → AtomKind → Atom → Type 0
FitsName nets boxes InPad atom = IsFirstNet nets atom.outs atom.name
FitsName nets boxes OutPad atom = IsOutName nets atom
FitsName nets boxes Lut atom = IsFirstNet nets atom.outs atom.name
FitsName nets boxes Latch atom = IsFirstNet nets atom.outs atom.name
FitsName nets boxes (Cell model) atom = IsBoxName nets boxes atom

-- how many boxes stand before this place
abbrev pub boxes_before : List Atom → ℕ → ℕ
boxes_before atoms number = count_by (λ a. is_box a.kind) (take number atoms)

-- each atom has the name that its connections give it
abbrev pub AreNamed : List (List ℕ) → List Atom → Type 0
AreNamed nets atoms =
    (number : ℕ) (atom : Atom) → slice_get atoms number ≡ Some atom →
    FitsName nets (boxes_before atoms number) atom.kind atom
