use Rattle.std.proofs.Common.{◌≡◌, ◌++◌, ◌-◌}
use Rattle.blif_text.specs.Rows.{pattern_text}
use Rattle.blif_text.proofs.rows.put_pattern.Given as goal

abbrev pub invariant-loop-input : goal.invariant-loop-input
invariant-loop-input l = l.out.items ++ pattern_text (l.inputs - l._input) l.left ≡ l.initial.out.items ++ pattern_text l.inputs l.index
