-- What the lines of a netlist keep.
use Rattle.std.specs.Prelude.{◌≡◌, ◌+◌, ℕ, List, [], ◌∷◌, ◌++◌, map, if◌then◌else◌}
use Rattle.std.specs.List.{flat_map}
use Rattle.vtr_base.specs.Lists.{Has}
use Rattle.list_laws.specs.Orders.{Once}
use Rattle.net_types.specs.declared.atom.Atom.{Atom}
use Rattle.net_types.specs.declared.parts.NetlistParts.{NetlistParts}
use Rattle.net_types.specs.Atoms.{is_box}
use Rattle.net_types.specs.Names.{FitsName}
use Rattle.net_types.specs.Order.{nets_of, of_group}

-- the nets that an atom drives
abbrev pub drives : Atom → List ℕ
drives atom = nets_of atom.outs

abbrev pub called : Atom → List ℕ
called atom = atom.name

abbrev pub counts : Atom → ℕ
counts atom = if is_box atom.kind then 1 else 0

-- each atom has the name that its connections give it, where so many boxes stand before the first
abbrev pub NamedFrom : List (List ℕ) → ℕ → List Atom → Type 0
NamedFrom nets boxes [] = Unit {0}
NamedFrom nets boxes (atom ∷ atoms) = FitsName nets boxes atom.kind atom × NamedFrom nets (boxes + counts atom) atoms

-- inputs, then outputs, then the others, those of each group in their order
abbrev pub in_groups : List Atom → List Atom
in_groups lines = of_group 0 lines ++ (of_group 1 lines ++ of_group 2 lines)

pub record KeepsLines (n : NetlistParts) (lines : List Atom) : Type 0 where
  pub each : (atom : Atom) → Has lines atom → Has n.atoms atom
  pub driven_once : Once (flat_map drives lines)
  pub names_once : Once (map called lines)
  pub named : NamedFrom n.nets 0 lines
  pub grouped : in_groups lines ≡ n.atoms
