-- Nets that are taken by the first need that each may feed.
use Rattle.std.specs.Prelude.{◌≡◌}
use Rattle.vtr_base.specs.Lists.{Has}
use Rattle.task_types.specs.declared.task.Need.{Need}
use Rattle.task_types.specs.Ends.{net_of, IsFed}
use Rattle.sparse_set.specs.Sets.{Held, Joins}

-- a net may feed the need from outside, and wasn't there
pub record IsTaken (old new : Held) (need : Need) : Type 0 where
  pub fed : IsFed need
  pub joins : Joins old new (net_of need)

-- no net may feed the need from outside, or its net was there
pub record IsPassed (old new : Held) (need : Need) : Type 0 where
  pub there : IsFed need → Has old.items (net_of need)
  pub same : new ≡ old
