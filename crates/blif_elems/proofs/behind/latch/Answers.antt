use Rattle.std.proofs.Common.{sym, subst, MatchResult}
use Rattle.blif_elems.specs.declared.keyword.Keyword.TheVariants.{Latch}
use Rattle.blif_elems.specs.Faults.{IsFaultBehind}
use Rattle.blif_elems.specs.Seen.{said, fault_said}
use Rattle.blif_elems.specs.Statements.{SaysBehind}
use Rattle.blif_elems.proofs.Latches.{two_words}
use Rattle.blif_elems.proofs.behind.latch.Goals as goal

pub returns-in-len2-up : goal.returns-in-len2-up
returns-in-len2-up c =
    subst (λ ws. MatchResult c.latch_of.result (λ s. SaysBehind Latch ws (said s)) (λ f. IsFaultBehind Latch ws (fault_said f)))
    (sym (two_words c.args.behind.now c.in-len2-up.len_at_least)) c.latch_of.ensures
