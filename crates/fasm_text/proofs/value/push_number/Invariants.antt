use Rattle.std.proofs.Common.{◌≡◌, ◌++◌, ◌-◌}
use Rattle.fasm_text.specs.Values.{low_bits}
use Rattle.fasm_text.proofs.value.push_number.Given as goal

-- the bits so far, and those of what is left
abbrev pub invariant-loop-done : goal.invariant-loop-done
invariant-loop-done l = l.bits.items ++ low_bits (128 - l.done) l.rest ≡ low_bits 128 l.fn.number
