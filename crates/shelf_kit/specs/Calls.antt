-- What one call of a shelf or a sink in memory does to its counters.
use Rattle.std.specs.Prelude.{◌≡◌, ℕ, ◌+◌, ◌<◌, ◌⊎◌, ◌↔◌, List, length, Contains, Result, IsErr, IsErrOf, OnErr, OnOk, vec_len, vec_capacity}
use Rattle.vtr_base.specs.declared.outside.ShelfError.{ShelfError}
use Rattle.vtr_base.specs.declared.outside.ShelfError.TheVariants.{Failed}
use Rattle.vtr_base.specs.declared.outside.SinkFailed.{SinkFailed}
use Rattle.shelf_kit.specs.declared.memory.MemShelf.{MemShelf}
use Rattle.shelf_kit.specs.declared.memory.MemSink.{MemSink}
use Rattle.shelf_kit.specs.Counts.{counted}

-- The call has the next number. It fails exactly where that number is listed, and a failure is a
-- fault, and the only one. The list stays.
pub record TakesCall {T : Type 0} (old new : MemShelf) (result : Result T ShelfError) : Type 0 where
  pub planned : IsErrOf result Failed ↔ Contains old.fails.items old.calls
  pub numbered : new.calls ≡ counted old.calls
  pub listed : new.fails ≡ old.fails
  pub fault : IsErrOf result Failed → new.faults ≡ counted old.faults
  pub calm : (IsErrOf result Failed → ⊥) → new.faults ≡ old.faults

-- The put has the next number. It fails exactly where that number is listed or there is no room
-- for the piece, and then adds nothing. A failure is a fault, and the only one. List and room stay.
pub record TakesPut {T : Type 0} (old new : MemSink) (piece : List ℕ) (result : Result T SinkFailed) : Type 0 where
  pub planned : IsErr result ↔ (Contains old.fails.items old.calls ⊎ (vec_capacity old.bytes < vec_len old.bytes + length piece))
  pub numbered : new.calls ≡ counted old.calls
  pub listed : new.fails ≡ old.fails
  pub room : vec_capacity new.bytes ≡ vec_capacity old.bytes
  pub nothing : OnErr result (new.bytes.items ≡ old.bytes.items)
  pub fault : OnErr result (new.faults ≡ counted old.faults)
  pub calm : OnOk result (new.faults ≡ old.faults)
