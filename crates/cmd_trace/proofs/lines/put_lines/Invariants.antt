use Rattle.cmd_trace.proofs.Answered.{IsAnswering}
use Rattle.cmd_trace.proofs.lines.put_lines.Given as goal

abbrev pub invariant-loop-pin : goal.invariant-loop-pin
invariant-loop-pin l = IsAnswering l.graph l.prog l.pin l.text.items
