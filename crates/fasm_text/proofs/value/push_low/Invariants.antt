use Rattle.std.proofs.Common.{◌≡◌, ◌++◌, ◌-◌}
use Rattle.fasm_text.specs.Values.{low_bits}
use Rattle.fasm_text.proofs.value.push_low.Given as goal

-- the bits so far, and those of what is left
abbrev pub invariant-loop-done : goal.invariant-loop-done
invariant-loop-done l = l.bits.items ++ low_bits (l.width - l.done) l.rest ≡ l.fn.bits.items ++ low_bits l.width l.fn.number
