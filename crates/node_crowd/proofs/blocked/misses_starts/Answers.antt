use Rattle.std.proofs.Common.{◌≡◌, ◌<◌, Some, length, get_or, slice_get, refl, sym, ap, ◌∙◌, arith}
use Rattle.std.proofs.lemmas.Option.{slice_get-get_or}
use Rattle.list_laws.proofs.Members.{has_at}
use Rattle.node_crowd.proofs.Ways.{not_blocked, blocked_by, no_more_pins}
use Rattle.node_crowd.proofs.blocked.misses_starts.Goals as goal

here : (c : goal.After-passes-arg-1) → slice_get c.loop-at.reached.items c.loop-at.at ≡ Some (get_or c.as_slice-in-loop-at.result.now c.loop-at.at 0)
here c =
    let less : c.loop-at.at < length c.as_slice-in-loop-at.result.now = omega (arith, c.loop-at-test.true, ap length c.as_slice.ensures, ap length c.as_slice-in-loop-at.ensures) in
    ap (λ l. slice_get l c.loop-at.at) (sym c.as_slice-in-loop-at.ensures) ∙ slice_get-get_or c.as_slice-in-loop-at.result.now c.loop-at.at 0 less

pub passes-requires-clause-pin : goal.passes-requires-clause-pin
passes-requires-clause-pin c =
    let inside = c.law.ensures.inside _ (has_at c.loop-at.reached.items c.loop-at.at _ (here c)) in
    omega (arith, inside, c.loop-at.invariant.1)

pub returns-then-not-passes-clause-blocked : goal.returns-then-not-passes-clause-blocked
returns-then-not-passes-clause-blocked c =
    let less : c.loop-at.at < length c.as_slice-in-loop-at.result.now = omega (arith, c.loop-at-test.true, ap length c.as_slice.ensures, ap length c.as_slice-in-loop-at.ensures) in
    let is : slice_get c.loop-at.reached.items c.loop-at.at ≡ Some (get_or c.as_slice-in-loop-at.result.now c.loop-at.at 0) =
    ap (λ l. slice_get l c.loop-at.at) (sym c.as_slice-in-loop-at.ensures) ∙ slice_get-get_or c.as_slice-in-loop-at.result.now c.loop-at.at 0 less in (
      λ no. let bad : ⊥ = cc no in absurd bad,
      λ blocked. absurd (not_blocked c.args.graph.now c.args.net.now.atoms c.args.task.now c.args.trail.now.made c.args.need c.args.listed.now.items c.loop-at.reached.items c.loop-at.at
          (get_or c.as_slice-in-loop-at.result.now c.loop-at.at 0) is c.if-not-passes.ensures.source.0 c.if-not-passes.ensures.source.1 c.loop-at.invariant.0 blocked),
    )

pub loop-at-smaller : goal.loop-at-smaller
loop-at-smaller c =
    let few = no_more_pins c.loop-at.reached.items c.loop-at.reached.room c.law.ensures.once c.law.ensures.inside in
    let less : c.loop-at.at < length c.args.graph.now.pins = omega (arith, c.loop-at-test.true, few, c.loop-at.invariant.1, ap length c.as_slice.ensures) in
    omega (arith, less)

pub loop-at-preserved : goal.loop-at-preserved
loop-at-preserved c =
    let less : c.loop-at.at < length c.as_slice-in-loop-at.result.now = omega (arith, c.loop-at-test.true, ap length c.as_slice.ensures, ap length c.as_slice-in-loop-at.ensures) in
    let is : slice_get c.loop-at.reached.items c.loop-at.at ≡ Some (get_or c.as_slice-in-loop-at.result.now c.loop-at.at 0) =
    ap (λ l. slice_get l c.loop-at.at) (sym c.as_slice-in-loop-at.ensures) ∙ slice_get-get_or c.as_slice-in-loop-at.result.now c.loop-at.at 0 less in
    (c.if-not-passes.ensures.on c.loop-at.at is c.loop-at.invariant.0, c.passes.ensures.room ∙ c.loop-at.invariant.1)

pub returns-clause-blocked : goal.returns-clause-blocked
returns-clause-blocked c = (
  λ _. blocked_by c.args.graph.now c.args.net.now.atoms c.args.task.now c.args.trail.now.made c.args.need c.args.listed.now.items c.loop-at.reached.items c.loop-at.at
      (let done = c.loop-at-test.false in omega (arith, done, ap length c.as_slice.ensures)) c.loop-at.invariant.0,
  λ _. refl,
)
