use Rattle.std.proofs.Common.{◌≡◌, drop}
use Rattle.elem_text.specs.Bytes.{place_after}
use Rattle.elem_text.proofs.bytes.place_after.Given as goal

-- what is still to come leads from the place so far to the end
abbrev pub invariant-loop-b : goal.invariant-loop-b
invariant-loop-b l = place_after (record { line = l.line; byte = l.byte }) (drop l.b-index l.bytes) ≡ place_after l.fn.at l.bytes
