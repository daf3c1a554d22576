use Rattle.std.proofs.Common.{refl, sym, subst, ◌∙◌, arith}
use Rattle.std.proofs.lemmas.Option.{slice_get-get_or}
use Rattle.vtr_base.specs.Lists.{Has}
use Rattle.sparse_set.specs.Sets.{Joins}
use Rattle.node_crowd.proofs.Apart.{one_more, net_twice, no_need, not_active, all_apart, net_inside}
use Rattle.node_crowd.proofs.crowd.are_apart.Goals as goal

pub returns-in_default-clause-apart : goal.returns-in_default-clause-apart
returns-in_default-clause-apart c =
    let at = slice_get-get_or c.args.needs.now c.loop-number.number-index 0 c.loop-number-test.true in (
      λ no. let bad : ⊥ = cc no in absurd bad,
      λ all. absurd (no_need c.args.task.now c.args.trail.now.made c.args.needs.now c.loop-number.number-index _ at (sym (c.copied.ensures ∙ c.get.ensures.value) ∙ c.in_default.is) all),
    )

pub returns-then-not-is_active-clause-apart : goal.returns-then-not-is_active-clause-apart
returns-then-not-is_active-clause-apart c =
    let at = slice_get-get_or c.args.needs.now c.loop-number.number-index 0 c.loop-number-test.true in (
      λ no. let bad : ⊥ = cc no in absurd bad,
      λ all. absurd (not_active c.args.task.now c.args.trail.now.made c.args.needs.now c.loop-number.number-index _ c.in-Some.need at (sym (c.copied.ensures ∙ c.get.ensures.value) ∙ c.in-Some.is)
          (λ active. let bad : ⊥ = cc (sym c.if-not-is_active.true, c.is_active.ensures.1 active) in bad) all),
    )

pub insert-requires : goal.insert-requires
insert-requires c =
    let of = c.requires.task.needs _ c.in-Some.need (sym (c.copied.ensures ∙ c.get.ensures.value) ∙ c.in-Some.is) in
    let less = net_inside c.args.graph.now c.args.task.now c.in-Some.need of in
    omega (arith, less, c.net_of.ensures, c.loop-number.invariant.room)

pub returns-then-not-insert-clause-apart : goal.returns-then-not-insert-clause-apart
returns-then-not-insert-clause-apart c =
    let at = slice_get-get_or c.args.needs.now c.loop-number.number-index 0 c.loop-number-test.true in (
      λ no. let bad : ⊥ = cc no in absurd bad,
      λ all. absurd (net_twice c.args.task.now c.args.trail.now.made c.args.needs.now c.loop-number.number-index _ c.in-Some.need c.loop-number.nets at (sym (c.copied.ensures ∙ c.get.ensures.value) ∙ c.in-Some.is)
          (subst (λ q. Has c.loop-number.nets.items q) c.net_of.ensures c.if-not-insert.ensures.there) c.loop-number.invariant all),
    )

pub loop-number-preserved : goal.loop-number-preserved
loop-number-preserved c =
    let at = slice_get-get_or c.args.needs.now c.loop-number.number-index 0 c.loop-number-test.true in
    one_more c.args.task.now c.args.trail.now.made c.args.needs.now c.loop-number.number-index _ c.in-Some.need c.loop-number.nets c.insert.new.self at
    (record { is = sym (c.copied.ensures ∙ c.get.ensures.value) ∙ c.in-Some.is; active = c.is_active.ensures.0 c.if-not-is_active.false })
    (subst (λ q. Joins c.loop-number.nets c.insert.new.self q) c.net_of.ensures c.if-not-insert.ensures) c.loop-number.invariant

pub returns-clause-apart : goal.returns-clause-apart
returns-clause-apart c = (
  λ _. all_apart c.args.task.now c.args.trail.now.made c.args.needs.now c.loop-number.number-index c.loop-number.nets c.loop-number-test.false c.loop-number.invariant,
  λ _. refl,
)
