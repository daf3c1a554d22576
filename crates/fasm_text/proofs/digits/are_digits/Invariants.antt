use Rattle.std.proofs.Common.{drop}
use Rattle.fasm_text.proofs.Gaps.{IsCounting}
use Rattle.fasm_text.proofs.digits.are_digits.Given as goal

abbrev pub invariant-loop-byte : goal.invariant-loop-byte
invariant-loop-byte l = IsCounting l.radix l.text (drop l.byte-index l.text) l.some
