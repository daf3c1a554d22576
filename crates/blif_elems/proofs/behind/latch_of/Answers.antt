use Rattle.std.proofs.Common.{sym, subst, MatchResult}
use Rattle.blif_elems.specs.declared.keyword.Keyword.TheVariants.{Latch}
use Rattle.blif_elems.specs.Faults.{IsFaultBehind}
use Rattle.blif_elems.specs.Seen.{said, fault_said}
use Rattle.blif_elems.specs.Statements.{SaysBehind}
use Rattle.blif_elems.proofs.Latches.{second_words}
use Rattle.blif_elems.proofs.behind.latch_of.Goals as goal

pub returns-in-len2-up : goal.returns-in-len2-up
returns-in-len2-up c =
    let kind = c.args.kind.now in
    subst (λ ws. MatchResult c.rising.result (λ s. SaysBehind Latch ws (said s)) (λ f. IsFaultBehind Latch ws (fault_said f)))
    (sym (second_words c.args.loaded.now c.args.made.now kind c.in-len2-up.len_at_least (c.is_same.ensures.0 c.if-is_same.true))) c.rising.ensures
