use Rattle.std.specs.Prelude.{◌≡◌, ◌<◌, ℕ, Some, slice_get}
use Rattle.net_types.specs.declared.atom.Conn.{Conn}
use Rattle.task_types.specs.Ends.{FitsOut}
use Rattle.task_reach.proofs.starts.drives_at.Given as goal

abbrev pub invariant-loop-out : goal.invariant-loop-out
invariant-loop-out l = (k : ℕ) (out : Conn) → k < l.out-index → slice_get l.outs k ≡ Some out → out.net ≡ l.net → l.at.bit ≡ out.bit → FitsOut l.kind out l.port → ⊥
