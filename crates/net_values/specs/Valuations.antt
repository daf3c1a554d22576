-- The values of nets (BLIF, "Logic gates"): a LUT gives the value of its table at the values of its
-- inputs; what inputs, latches and boxes give is free.
use Rattle.std.specs.Prelude.{◌≡◌, ◌<◌, ℕ, Bool, List, Some, length, map, slice_get}
use Rattle.vtr_base.specs.Lists.{Has}
use Rattle.arch_types.specs.declared.block.AtomKind.TheVariants.{Lut}
use Rattle.blif_covers.specs.Covers.{index_of}
use Rattle.net_types.specs.declared.atom.Atom.{Atom}
use Rattle.net_types.specs.declared.atom.Conn.{Conn}
use Rattle.net_types.specs.declared.parts.NetlistParts.{NetlistParts}

-- a value for each net, by number
abbrev pub NetValues : Type 0
NetValues = ℕ → Bool

-- the values of the nets of connections
abbrev pub values_of : NetValues → List Conn → List Bool
values_of values conns = map (λ c. values c.net) conns

-- the table's value at the index of the inputs' values, of which the first is the lowest bit
abbrev pub IsLookedUp : List Bool → List Bool → Bool → Type 0
IsLookedUp table inputs value = slice_get table (index_of inputs) ≡ Some value

-- nets that LUTs make have the values of their tables; nets that inputs, latches and boxes make have
-- the given values
pub record IsValuation (n : NetlistParts) (given values : NetValues) : Type 0 where
  pub luts : (atom : Atom) (out : Conn) → Has n.atoms atom → atom.kind ≡ Lut →
      Has atom.outs out → IsLookedUp atom.table (values_of values atom.ins) (values out.net)
  pub others : (atom : Atom) (out : Conn) → Has n.atoms atom → (atom.kind ≡ Lut → ⊥) →
      Has atom.outs out → values out.net ≡ given out.net

-- there is one valuation, and any two have the same values at all nets
pub record HasOneValuation (n : NetlistParts) (given : NetValues) : Type 0 where
  pub values : NetValues
  pub valuation : IsValuation n given values
  pub one : (other : NetValues) → IsValuation n given other →
      (net : ℕ) → net < length n.nets → other net ≡ values net
