-- At which pins a need can be met, and from which pins its net can come, where atoms stand at some
-- leaves and nets come in at some pins of the block.
use Rattle.std.specs.Prelude.{◌≡◌, ◌≢◌, ◌⊎◌, ℕ, true, Some, slice_get, codes}
use Rattle.arch_types.specs.declared.block.AtomKind.{AtomKind}
use Rattle.arch_types.specs.declared.block.AtomKind.TheVariants as kind
use Rattle.arch_types.specs.declared.block.Port.{Port}
use Rattle.arch_types.specs.declared.block.Side.TheVariants.{Input, Output, Clock}
use Rattle.pb_expand.specs.declared.number.PinAt.{PinAt}
use Rattle.pb_expand.specs.Graph.{Graph, pin_at}
use Rattle.prog_map.specs.Leaves.{port_at, AreInputs}
use Rattle.task_types.specs.declared.task.Task.{Task}
use Rattle.task_types.specs.declared.task.TaskNet.{TaskNet}
use Rattle.task_types.specs.declared.task.Need.{Need}
use Rattle.task_types.specs.declared.task.Need.TheVariants as need
use Rattle.net_types.specs.declared.atom.Atom.{Atom}
use Rattle.net_types.specs.declared.atom.Conn.{Conn}
use Rattle.task_types.specs.Nets.{NetSaid}

-- the atom at a place of the task
pub record IsAtom (n : NetSaid) (t : Task) (place : ℕ) (atom : Atom) : Type 0 where
  pub number : ℕ
  pub listed : slice_get t.atoms place ≡ Some number
  pub is : slice_get n number ≡ Some atom

-- an input connection of an atom of that kind is one of this port: a box has ports by name, the
-- control of a latch is its leaf's clock, and any other input is the leaf's one input port
abbrev pub FitsIn : AtomKind → Conn → Port → Type 0
FitsIn (kind.Cell model) conn port = (port.name ≡ conn.port) × (port.side ≢ Output)
FitsIn kind.Latch conn port = ((conn.port ≡ codes "clk") × (port.side ≡ Clock)) ⊎ ((conn.port ≢ codes "clk") × (port.side ≡ Input))
FitsIn kind.InPad conn port = port.side ≡ Input
FitsIn kind.OutPad conn port = port.side ≡ Input
FitsIn kind.Lut conn port = port.side ≡ Input

-- an output connection of an atom of that kind is one of this port
abbrev pub FitsOut : AtomKind → Conn → Port → Type 0
FitsOut (kind.Cell model) conn port = (port.name ≡ conn.port) × (port.side ≡ Output)
FitsOut kind.Latch conn port = port.side ≡ Output
FitsOut kind.InPad conn port = port.side ≡ Output
FitsOut kind.OutPad conn port = port.side ≡ Output
FitsOut kind.Lut conn port = port.side ≡ Output

-- the pin of that number is one of the instance, of a port of that kind
pub record IsPinOf (g : Graph) (Fits : Port → Type 0) (pb pin : ℕ) : Type 0 where
  pub at : PinAt
  pub is : slice_get g.pins pin ≡ Some at
  pub of_pb : at.pb.0 ≡ pb
  pub port : Port
  pub is_port : port_at g at ≡ Some port
  pub fits : Fits port

-- the same, and it is the bit of that connection
pub record IsConnAt (g : Graph) (Fits : Port → Type 0) (conn : Conn) (leaf pin : ℕ) : Type 0 where
  pub on : IsPinOf g Fits leaf pin
  pub bit : on.at.bit ≡ conn.bit

-- an input or clock pin of the block, which is instance 0
abbrev pub IsRootInput : Graph → ℕ → Type 0
IsRootInput g pin = IsPinOf g (λ port. port.side ≢ Output) 0 pin

abbrev pub IsRootOutput : Graph → ℕ → Type 0
IsRootOutput g pin = IsPinOf g (λ port. port.side ≡ Output) 0 pin

-- the pin is an input of a LUT
pub record IsLutInput (g : Graph) (leaf pin : ℕ) : Type 0 where
  pub port : ℕ
  pub width : ℕ
  pub inputs : AreInputs g leaf port width
  pub bit : ℕ
  pub is : slice_get g.pins pin ≡ Some (pin_at leaf port bit)

-- the pin of that input connection of an atom of the task, were the leaf its home
pub record IsInputAt (g : Graph) (n : NetSaid) (t : Task) (place conn leaf pin : ℕ) : Type 0 where
  pub atom : Atom
  pub is_atom : IsAtom n t place atom
  pub is : Conn
  pub is_conn : slice_get atom.ins conn ≡ Some is
  pub at : IsConnAt g (FitsIn atom.kind is) is leaf pin

-- the pin at which an atom of the task drives the net, were the leaf its home
pub record IsMadeAt (g : Graph) (n : NetSaid) (t : Task) (net place leaf pin : ℕ) : Type 0 where
  pub of : TaskNet
  pub is_net : slice_get t.nets net ≡ Some of
  pub maker : of.maker ≡ Some place
  pub atom : Atom
  pub is_atom : IsAtom n t place atom
  pub number : ℕ
  pub is : Conn
  pub is_conn : slice_get atom.outs number ≡ Some is
  pub of_net : is.net ≡ of.net
  pub at : IsConnAt g (FitsOut atom.kind is) is leaf pin

abbrev pub net_of : Need → ℕ
net_of (need.Input atom conn net) = net
net_of (need.LutNet atom net) = net
net_of (need.Leave net) = net
net_of (need.LeaveAt net at) = net

-- a pin at which the need can be met, where `At` says which atom may be at which leaf
abbrev pub IsEnd : Graph → NetSaid → Task → (ℕ → ℕ → Type 0) → Need → ℕ → Type 0
IsEnd g n t At (need.Input atom conn net) pin = (leaf : ℕ) × At atom leaf × IsInputAt g n t atom conn leaf pin
IsEnd g n t At (need.LutNet atom net) pin = (leaf : ℕ) × At atom leaf × IsLutInput g leaf pin
IsEnd g n t At (need.Leave net) pin = IsRootOutput g pin
IsEnd g n t At (need.LeaveAt net at) pin = pin ≡ at.0

-- a net may feed the need from outside: one that is to leave the block has to come from its maker
abbrev pub IsFed : Need → Type 0
IsFed (need.Input atom conn net) = Unit {0}
IsFed (need.LutNet atom net) = Unit {0}
IsFed (need.Leave net) = ⊥
IsFed (need.LeaveAt net at) = ⊥

-- a pin from which the net of a need can come: one at which its maker drives it, or one at which it
-- comes in, where `Enters` says which net comes in where
pub record IsFirstPin (g : Graph) (n : NetSaid) (t : Task) (At : ℕ → ℕ → Type 0) (net pin : ℕ) : Type 0 where
  pub place : ℕ
  pub leaf : ℕ
  pub at : At place leaf
  pub made : IsMadeAt g n t net place leaf pin

abbrev pub IsSource : Graph → NetSaid → Task → (ℕ → ℕ → Type 0) → (ℕ → ℕ → Type 0) → Need → ℕ → Type 0
IsSource g n t At Enters need pin = IsFirstPin g n t At (net_of need) pin ⊎ (IsFed need × Enters (net_of need) pin)

-- an atom outside the task reads the net
pub record LeavesTask (t : Task) (net : ℕ) : Type 0 where
  pub of : TaskNet
  pub is : slice_get t.nets net ≡ Some of
  pub leaves : of.leaves ≡ true

-- the need has to be met: that a net leaves, where an atom outside reads it or it comes in somewhere
abbrev pub IsActive : Task → (ℕ → ℕ → Type 0) → Need → Type 0
IsActive t Enters (need.Input atom conn net) = Unit {0}
IsActive t Enters (need.LutNet atom net) = Unit {0}
IsActive t Enters (need.Leave net) = LeavesTask t net ⊎ ((pin : ℕ) × Enters net pin)
IsActive t Enters (need.LeaveAt net at) = Unit {0}
