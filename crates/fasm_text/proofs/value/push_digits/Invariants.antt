use Rattle.std.proofs.Common.{◌≡◌, ◌++◌, drop}
use Rattle.fasm_text.specs.Values.{bits_of_digits, without_gaps}
use Rattle.fasm_text.proofs.value.push_digits.Given as goal

-- the bits of the digits from here to the end
abbrev pub invariant-loop-at : goal.invariant-loop-at
invariant-loop-at l = l.bits.items ≡ l.fn.bits.items ++ bits_of_digits l.width (without_gaps (drop l.at l.digits))
