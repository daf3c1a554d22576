-- From what pins come that are added to others.
use Rattle.std.specs.Prelude.{◌≡◌, ℕ, List, slice_get, Some}
use Rattle.arch_types.specs.declared.block.AtomKind.{AtomKind}
use Rattle.arch_types.specs.declared.block.Port.{Port}
use Rattle.pb_expand.specs.Graph.{Graph, pin_at}
use Rattle.pb_expand.specs.declared.number.PinAt.{PinAt}
use Rattle.prog_map.specs.Leaves.{port_at}
use Rattle.net_types.specs.declared.atom.Conn.{Conn}
use Rattle.task_types.specs.declared.task.Task.{Task}
use Rattle.task_types.specs.declared.decision.Decision.{Decision}
use Rattle.task_types.specs.Ends.{FitsIn, FitsOut, IsConnAt, IsLutInput}
use Rattle.task_types.specs.Open.{IsOpenTo}
use Rattle.task_open.specs.Steps.{MayTake, MayPass}

-- the pin into which an edge leads may take it, and it comes from `source`
pub record MayComeBy (g : Graph) (made : List Decision) (edge source : ℕ) : Type 0 where
  pub may : MayTake g made edge
  pub starts : may.edge.src.0 ≡ source

-- the pin is that bit of the port, which the leaf may pass on
pub record MayComeThrough (g : Graph) (made : List Decision) (leaf port input pin : ℕ) : Type 0 where
  pub may : MayPass g made leaf input
  pub is : slice_get g.pins pin ≡ Some (pin_at leaf port input)

-- the pin is that bit of a port of the leaf, which stands at that place and fits the connection
pub record IsBitOfPort (g : Graph) (kind : AtomKind) (conn : Conn) (leaf : ℕ) (ports : List Port) (place pin : ℕ) : Type 0 where
  pub port : Port
  pub is_port : slice_get ports place ≡ Some port
  pub fits : FitsIn kind conn port
  pub is : slice_get g.pins pin ≡ Some (pin_at leaf place conn.bit)

-- the leaf is open to the atom, and is that one
pub record IsOpenLeaf (g : Graph) (t : Task) (made : List Decision) (place leaf other : ℕ) : Type 0 where
  pub open' : IsOpenTo g t made place leaf
  pub same : other ≡ leaf

-- the leaf is open to the atom, and the pin is one of its connection
pub record IsOpenConn (g : Graph) (t : Task) (made : List Decision) (place : ℕ) (kind : AtomKind) (conn : Conn) (leaf pin : ℕ) : Type 0 where
  pub open' : IsOpenTo g t made place leaf
  pub at : IsConnAt g (FitsIn kind conn) conn leaf pin

-- the leaf is open to the atom, and the pin is an input of it, a LUT
pub record IsOpenInput (g : Graph) (t : Task) (made : List Decision) (place leaf pin : ℕ) : Type 0 where
  pub open' : IsOpenTo g t made place leaf
  pub input : IsLutInput g leaf pin

-- the pin is one of a port to which the atom's output of that net is connected, by number in the netlist
pub record DrivesAt (g : Graph) (kind : AtomKind) (outs : List Conn) (net : ℕ) (at : PinAt) : Type 0 where
  pub port : Port
  pub is_port : port_at g at ≡ Some port
  pub number : ℕ
  pub out : Conn
  pub is_out : slice_get outs number ≡ Some out
  pub of_net : out.net ≡ net
  pub bit : at.bit ≡ out.bit
  pub fits : FitsOut kind out port
