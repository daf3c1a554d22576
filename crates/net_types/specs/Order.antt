-- The order of atoms, and the order of a file's lines, which numbers the nets.
use Rattle.std.specs.Prelude.{◌≡◌, ◌≤◌, ℕ, List, [], ◌∷◌, ◌++◌, ◌==◌, filter, map}
use Rattle.list_laws.specs.Orders.{Ordered}
use Rattle.arch_types.specs.declared.block.AtomKind.{AtomKind}
use Rattle.arch_types.specs.declared.block.AtomKind.TheVariants.{InPad, OutPad, Lut, Latch, Cell}
use Rattle.net_types.specs.declared.atom.Atom.{Atom}
use Rattle.net_types.specs.declared.atom.Conn.{Conn}
use Rattle.net_types.specs.Merges.{IsMerge, Mention}

-- inputs stand first, then outputs, then the other atoms
abbrev pub group_of : AtomKind → ℕ
group_of InPad = 0
group_of OutPad = 1
group_of _ = 2

abbrev pub AreGrouped : List Atom → Type 0
AreGrouped atoms = Ordered (λ a b. group_of a.kind ≤ group_of b.kind) atoms

-- those of one group, in their order
abbrev pub of_group : ℕ → List Atom → List Atom
of_group group atoms = filter (λ a. group_of a.kind == group) atoms

abbrev pub nets_of : List Conn → List ℕ
nets_of conns = map (λ c. c.net) conns

-- the nets of a line `.latch in out re control`
abbrev pub latch_nets : List Conn → List ℕ → List ℕ
latch_nets [] outs = outs
latch_nets (data_pin ∷ control) outs = data_pin.net ∷ (outs ++ nets_of control)

-- the nets that the line of an atom mentions, in their order: a box may have its inputs and its
-- outputs mixed
abbrev pub LineMentions : AtomKind → Atom → List ℕ → Type 0
LineMentions InPad atom nets = nets ≡ nets_of atom.outs
LineMentions OutPad atom nets = nets ≡ nets_of atom.ins
LineMentions Lut atom nets = nets ≡ nets_of atom.ins ++ nets_of atom.outs
LineMentions Latch atom nets = nets ≡ latch_nets atom.ins (nets_of atom.outs)
LineMentions (Cell model) atom nets = IsMerge (nets_of atom.ins) (nets_of atom.outs) nets

-- the lines of these atoms, in this order, number the nets by first mention
abbrev pub LinesNumber : ℕ → List Atom → ℕ → Type 0
LinesNumber known [] next = next ≡ known
LinesNumber known (atom ∷ atoms) next =
    (nets : List ℕ) × (between : ℕ) × LineMentions atom.kind atom nets
    × Mention known nets between × LinesNumber between atoms next

-- inputs, outputs and the other atoms can stand mixed in a file, each in their order, so that all
-- nets are numbered by first mention
pub record HaveLineOrder (nets : ℕ) (atoms : List Atom) : Type 0 where
  pub pads : List Atom
  pub are_pads : IsMerge (of_group 0 atoms) (of_group 1 atoms) pads
  pub lines : List Atom
  pub are_lines : IsMerge pads (of_group 2 atoms) lines
  pub number : LinesNumber 0 lines nets
