use Rattle.std.proofs.Common.{refl, ◌∙◌}
use Rattle.std.proofs.lemmas.Option.{slice_get-get_or}
use Rattle.list_laws.proofs.Members.{has_at}
use Rattle.node_crowd.proofs.Apart.{blocked_more, blocked_all}
use Rattle.node_crowd.proofs.crowd.are_blocked.Goals as goal

pub returns-then-not-is_blocked_at-clause-blocked : goal.returns-then-not-is_blocked_at-clause-blocked
returns-then-not-is_blocked_at-clause-blocked c =
    let at = slice_get-get_or c.args.needs.now c.loop-number.number-index 0 c.loop-number-test.true in (
      λ no. let bad : ⊥ = cc no in absurd bad,
      λ all. c.if-not-is_blocked_at.ensures.blocked.1 (λ need is. all.each _ need (has_at c.args.needs.now c.loop-number.number-index _ at) is),
    )

pub loop-number-preserved : goal.loop-number-preserved
loop-number-preserved c =
    let at = slice_get-get_or c.args.needs.now c.loop-number.number-index 0 c.loop-number-test.true in (
      blocked_more c.args.graph.now c.args.net.now.atoms c.args.task.now c.args.trail.now.made c.args.needs.now c.args.listed.now.items c.loop-number.number-index _ at
          (c.if-not-is_blocked_at.ensures.blocked.0 refl) c.loop-number.invariant.0,
      c.is_blocked_at.ensures.reached ∙ c.loop-number.invariant.1,
    )

pub returns-clause-blocked : goal.returns-clause-blocked
returns-clause-blocked c = (
  λ _. blocked_all c.args.graph.now c.args.net.now.atoms c.args.task.now c.args.trail.now.made c.args.needs.now c.args.listed.now.items c.loop-number.number-index c.loop-number-test.false c.loop-number.invariant.0,
  λ _. refl,
)
