use Rattle.std.proofs.Common.{◌≡◌, inl, inr, Some, get_or, slice_get, sym, ap, subst, ◌∙◌, arith}
use Rattle.std.proofs.lemmas.Option.{slice_get-get_or, slice_get_within}
use Rattle.std.proofs.lemmas.Bool.{cases_lt}
use Rattle.vtr_base.specs.Lists.{Has}
use Rattle.list_laws.proofs.Members.{has_at, at_has}
use Rattle.task_types.specs.Open.{MayStart}
use Rattle.node_cut.proofs.cut.has_start.Goals as goal

pub may_start-requires-clause-pin : goal.may_start-requires-clause-pin
may_start-requires-clause-pin c =
    let xs = c.as_slice-pin-items.result.now in
    let has = has_at xs c.loop-pin.pin-index (get_or xs c.loop-pin.pin-index 0) (slice_get-get_or xs c.loop-pin.pin-index 0 c.loop-pin-test.true) in
    let less = c.law.ensures.inside (get_or xs c.loop-pin.pin-index 0) (subst (λ l. Has l (get_or xs c.loop-pin.pin-index 0)) c.as_slice-pin-items.ensures has) in
    omega (arith, less, c.requires.room)

pub returns-then-may_start-clause-some : goal.returns-then-may_start-clause-some
returns-then-may_start-clause-some c =
    let xs = c.as_slice-pin-items.result.now in
    let has = has_at xs c.loop-pin.pin-index (get_or xs c.loop-pin.pin-index 0) (slice_get-get_or xs c.loop-pin.pin-index 0 c.loop-pin-test.true) in
    (get_or xs c.loop-pin.pin-index 0, subst (λ l. Has l (get_or xs c.loop-pin.pin-index 0)) c.as_slice-pin-items.ensures has, c.may_start.ensures.0 c.if-may_start.true)

pub loop-pin-preserved : goal.loop-pin-preserved
loop-pin-preserved c k pin less is start =
    let xs = c.as_slice-pin-items.result.now in
    elim (cases_lt k c.loop-pin.pin-index) [
      | inl before ↦ c.loop-pin.invariant k pin before is start
      | inr met ↦ (
          let same : k ≡ c.loop-pin.pin-index = omega (arith, met, less) in
          let here = slice_get-get_or xs c.loop-pin.pin-index 0 c.loop-pin-test.true in
          let both : Some pin ≡ Some (get_or xs c.loop-pin.pin-index 0) = sym is ∙ ap (λ i. slice_get xs i) same ∙ here in
          let pins : pin ≡ get_or xs c.loop-pin.pin-index 0 = cc both in
          let yes = c.may_start.ensures.1 (subst (λ p. MayStart c.args.graph.now c.args.net.now.atoms c.args.task.now c.args.trail.now.made c.args.need p) pins start) in
          let bad : ⊥ = cc (sym c.if-may_start.false ∙ yes) in bad)
    ]

pub returns-clause-none : goal.returns-clause-none
returns-clause-none c pin start has =
    let xs = c.as_slice-pin-items.result.now in
    let k = at_has xs pin (subst (λ l. Has l pin) (sym c.as_slice-pin-items.ensures) has) in
    let less = slice_get_within xs k.0 pin k.1 in
    c.loop-pin.invariant k.0 pin (let end = c.loop-pin-test.false in omega (arith, less, end)) k.1 start
