-- The fields of a set, tied to its elements.
use Rattle.std.specs.Prelude.{◌≡◌, ◌≤◌, ◌↔◌, ℕ, true, false, length, slice_index_or, vec_capacity}
use Rattle.vtr_base.specs.Lists.{Has}
use Rattle.list_laws.specs.Orders.{Once}
use Rattle.sparse_set.specs.declared.set.SparseSet.TheInside.{Inside}
use Rattle.sparse_set.specs.Sets.{Held, held_on}

abbrev pub held_of : Inside → Held
held_of s = held_on s.items.items (length s.there.items)

pub record IsTied (s : Inside) : Type 0 where
  pub marked : (number : ℕ) → (slice_index_or s.there.items number false ≡ true) ↔ Has s.items.items number
  pub once : Once s.items.items
  pub capacity : length s.there.items ≤ vec_capacity s.items
