-- What the nets of some atoms need, where no pin is fixed.
use Rattle.std.specs.Prelude.{◌≡◌, ◌<◌, ℕ, List, ◌++◌, map}
use Rattle.vtr_base.specs.Lists.{Has}
use Rattle.list_laws.specs.Orders.{Ordered}
use Rattle.task_types.specs.declared.task.TaskNet.{TaskNet}
use Rattle.task_types.specs.declared.task.Need.{Need}
use Rattle.task_types.specs.declared.task.Need.TheVariants as need
use Rattle.task_types.specs.Nets.{NetSaid}
use Rattle.task_types.specs.Ends.{net_of}
use Rattle.task_rules.specs.Needs.{Spot, StandsBefore, AreAsked, IsMadeInside}

-- the input connections before that of number `input` of the atom at `place`
abbrev pub Before : ℕ → ℕ → Spot → Type 0
Before place input spot = StandsBefore spot (record { place = place; input = input })

-- some output pin of the block will do
abbrev pub IsPlainLeave : Need → Type 0
IsPlainLeave (need.Leave net) = Unit {0}
IsPlainLeave (need.LeaveAt net pin) = ⊥
IsPlainLeave (need.Input atom conn net) = ⊥
IsPlainLeave (need.LutNet atom net) = ⊥

-- one for each net that is driven inside, in their order
pub record ArePlainLeaves (nets : List TaskNet) (needs : List Need) : Type 0 where
  pub ascend : Ordered ◌<◌ (map net_of needs)
  pub each : (asked : Need) → Has needs asked → IsPlainLeave asked
  pub made : (net : ℕ) → Has (map net_of needs) net → IsMadeInside nets net
  pub all : (net : ℕ) → IsMadeInside nets net → Has (map net_of needs) net

-- first what is asked for at all input connections, then what leaves
pub record AreNeeds (n : NetSaid) (atoms numbers : List ℕ) (nets : List TaskNet) (needs : List Need) :
    Type 0 where
  pub ins : List Need
  pub outs : List Need
  pub are : needs ≡ ins ++ outs
  pub asked : AreAsked n atoms numbers (λ spot. Unit {0}) ins
  pub leave : ArePlainLeaves nets outs
