-- What the nets of a task need of the block type. Needs speak of an atom by its place in the task's
-- list, and of a net by its place among the task's nets.
use Rattle.std.specs.Prelude.{◌≡◌, ◌<◌, ℕ, List, ◌++◌, Some, IsSome, length, map, slice_get}
use Rattle.vtr_base.specs.Lists.{Has, IsFirstPlace}
use Rattle.list_laws.specs.Orders.{Ordered}
use Rattle.arch_types.specs.declared.block.AtomKind.{AtomKind}
use Rattle.arch_types.specs.declared.block.AtomKind.TheVariants as kind
use Rattle.net_types.specs.declared.atom.Atom.{Atom}
use Rattle.net_types.specs.declared.atom.Conn.{Conn}
use Rattle.net_types.specs.Ends.{ComesBefore}
use Rattle.net_types.specs.Order.{nets_of}
use Rattle.pb_expand.specs.Graph.{Graph}
use Rattle.task_types.specs.declared.task.Task.{Task}
use Rattle.task_types.specs.declared.task.TaskNet.{TaskNet}
use Rattle.task_types.specs.declared.task.Need.{Need}
use Rattle.task_types.specs.declared.task.Need.TheVariants as need
use Rattle.task_types.specs.Nets.{NetSaid}
use Rattle.task_types.specs.Ends.{IsRootOutput, net_of}
use Rattle.task_rules.specs.Joined.{IsListed, numbers_of}

-- an input connection: the place of its atom, and its place among the inputs of that
pub record Spot : Type 0 where
  pub place : ℕ
  pub input : ℕ

-- what an atom of that kind asks for at an input connection, where `number` is the number of its net
-- in the netlist and `net` its place in the task: a LUT asks once for each net, where its inputs have
-- it first, and any other atom at each connection
abbrev pub Asks : AtomKind → List Conn → Spot → ℕ → ℕ → Need → Type 0
Asks kind.Lut conns spot number net asked =
    IsFirstPlace (nets_of conns) number spot.input × (asked ≡ need.LutNet spot.place net)
Asks kind.InPad conns spot number net asked = asked ≡ need.Input spot.place spot.input net
Asks kind.OutPad conns spot number net asked = asked ≡ need.Input spot.place spot.input net
Asks kind.Latch conns spot number net asked = asked ≡ need.Input spot.place spot.input net
Asks (kind.Cell model) conns spot number net asked = asked ≡ need.Input spot.place spot.input net

-- what is asked for at an input connection of an atom of the list; `nets` has the numbers of the nets
pub record IsAsked (n : NetSaid) (atoms nets : List ℕ) (spot : Spot) (asked : Need) : Type 0 where
  pub atom : Atom
  pub listed : IsListed n atoms spot.place atom
  pub conn : Conn
  pub is_conn : slice_get atom.ins spot.input ≡ Some conn
  pub net : ℕ
  pub is_net : slice_get nets net ≡ Some conn.net
  pub asks : Asks atom.kind atom.ins spot conn.net net asked

-- by atoms, and at one atom by connections
abbrev pub StandsBefore : Spot → Spot → Type 0
StandsBefore a b = ComesBefore (a.place, a.input) (b.place, b.input)

-- all that is asked for at the input connections `Within`, connection by connection
pub record AreAsked (n : NetSaid) (atoms nets : List ℕ) (Within : Spot → Type 0) (needs : List Need) :
    Type 0 where
  pub spots : List Spot
  pub within : (spot : Spot) → Has spots spot → Within spot
  pub ascend : Ordered StandsBefore spots
  pub long : length spots ≡ length needs
  pub each : (k : ℕ) (spot : Spot) (asked : Need) → slice_get spots k ≡ Some spot →
      slice_get needs k ≡ Some asked → IsAsked n atoms nets spot asked
  pub all : (spot : Spot) (asked : Need) → Within spot → IsAsked n atoms nets spot asked →
      Has spots spot

-- the net at that place of the task is driven by an atom of the task
pub record IsMadeInside (nets : List TaskNet) (net : ℕ) : Type 0 where
  pub of : TaskNet
  pub is : slice_get nets net ≡ Some of
  pub made : IsSome of.maker

-- the need is that a net leaves the block, at some output pin of it or at just that one
abbrev pub IsLeave : Graph → Need → Type 0
IsLeave g (need.Leave net) = Unit {0}
IsLeave g (need.LeaveAt net pin) = IsRootOutput g pin.0
IsLeave g (need.Input atom conn net) = ⊥
IsLeave g (need.LutNet atom net) = ⊥

-- one for each net that is driven inside, in their order
pub record AreLeaves (g : Graph) (nets : List TaskNet) (needs : List Need) : Type 0 where
  pub ascend : Ordered ◌<◌ (map net_of needs)
  pub each : (asked : Need) → Has needs asked → IsLeave g asked
  pub made : (net : ℕ) → Has (map net_of needs) net → IsMadeInside nets net
  pub all : (net : ℕ) → IsMadeInside nets net → Has (map net_of needs) net

-- first what is asked for at all input connections, then what leaves
pub record HasNeeds (g : Graph) (n : NetSaid) (t : Task) : Type 0 where
  pub ins : List Need
  pub outs : List Need
  pub are : t.needs ≡ ins ++ outs
  pub asked : AreAsked n t.atoms (numbers_of t.nets) (λ spot. Unit {0}) ins
  pub leave : AreLeaves g t.nets outs
