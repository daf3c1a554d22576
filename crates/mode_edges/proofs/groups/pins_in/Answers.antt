use Rattle.std.proofs.Common.{◌∙◌}
use Rattle.mode_edges.proofs.Counts.{count_own, counted_child}
use Rattle.mode_edges.proofs.groups.pins_in.Goals as goal

pub returns-in-None : goal.returns-in-None
returns-in-None c = c.from.ensures ∙ (c.member_count-bits.ensures ∙ count_own c.args.group c.in-None.is)

pub returns-in-Some : goal.returns-in-Some
returns-in-Some c =
    counted_child c.args.group c.in-Some.of c.from-in-Some.result c.from-in-Some-2.result c.in-Some.is (c.from-in-Some.ensures ∙ c.member_count.ensures)
    (c.from-in-Some-2.ensures ∙ c.member_count-bits.ensures)
