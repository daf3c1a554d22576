-- What every netlist keeps: all that its file has to say of nets and atoms, so that no one who holds
-- a netlist tests it again.
use Rattle.std.specs.Prelude.{◌≡◌, ◌≤◌, ◌<◌, ◌+◌, ◌-◌, ◌^◌, ℕ, List, Some, length, map, slice_get}
use Rattle.std.specs.List.{All, sum_by}
use Rattle.vtr_base.specs.Lists.{Has}
use Rattle.list_laws.specs.Orders.{Once}
use Rattle.arch_types.specs.declared.block.AtomKind.TheVariants.{Lut}
use Rattle.net_types.specs.declared.atom.Atom.{Atom}
use Rattle.net_types.specs.declared.atom.Conn.{Conn}
use Rattle.net_types.specs.declared.parts.NetlistParts.{NetlistParts}
use Rattle.net_types.specs.Words.{IsNetName}
use Rattle.net_types.specs.Atoms.{IsAtom}
use Rattle.net_types.specs.Ends.{HasOneMaker, IsDriver}
use Rattle.net_types.specs.Names.{AreNamed}
use Rattle.net_types.specs.Order.{AreGrouped, HaveLineOrder}

pub record AreNets (nets : List (List ℕ)) : Type 0 where
  pub each : All IsNetName nets
  pub once : Once nets
  pub few : length nets < 2 ^ 32 - 1

-- how many connections all atoms have
abbrev pub count_conns : List Atom → ℕ
count_conns atoms = sum_by (λ a. length a.ins + length a.outs) atoms

pub record AreAtoms (atoms : List Atom) : Type 0 where
  pub each : All IsAtom atoms
  pub grouped : AreGrouped atoms
  pub once : Once (map (λ a. a.name) atoms)
  pub few : length atoms ≤ 65536
  pub few_conns : count_conns atoms < 2 ^ 32 - 1

-- each connection is of a net that is there
abbrev pub HaveNets : ℕ → List Atom → Type 0
HaveNets nets atoms =
    All (λ a. All (λ c. c.net < nets) a.ins × All (λ c. c.net < nets) a.outs) atoms

-- the LUT with the one number takes a net that the LUT with the other number makes
pub record Feeds (atoms : List Atom) (maker taker : ℕ) : Type 0 where
  pub atom : Atom
  pub there : slice_get atoms taker ≡ Some atom
  pub takes : atom.kind ≡ Lut
  pub conn : Conn
  pub has : Has atom.ins conn
  pub other : Atom
  pub other_there : slice_get atoms maker ≡ Some other
  pub makes : other.kind ≡ Lut
  pub drives : IsDriver atoms conn.net maker

-- no cycle runs through LUTs: each has a rank above those of the LUTs that make its inputs
pub record HaveRanks (atoms : List Atom) : Type 0 where
  pub rank : ℕ → ℕ
  pub rises : (maker taker : ℕ) → Feeds atoms maker taker → rank maker < rank taker

pub record IsNetlist (n : NetlistParts) : Type 0 where
  pub nets : AreNets n.nets
  pub atoms : AreAtoms n.atoms
  pub named : AreNamed n.nets n.atoms
  pub within : HaveNets (length n.nets) n.atoms
  pub made : (net : ℕ) → net < length n.nets → HasOneMaker n.atoms net
  pub ranks : HaveRanks n.atoms
  pub order : HaveLineOrder (length n.nets) n.atoms
