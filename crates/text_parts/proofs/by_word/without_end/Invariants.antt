use Rattle.std.proofs.Common.{drop}
use Rattle.std.specs.List.{AllPass}
use Rattle.vtr_base.specs.Spans.{is_white}
use Rattle.text_parts.proofs.by_word.without_end.Given as goal

abbrev pub invariant-loop-end : goal.invariant-loop-end
invariant-loop-end l = AllPass is_white (drop l.end l.text)
