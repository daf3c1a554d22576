use Rattle.std.proofs.Common.{◌≡◌, ◌∙◌, refl, ap, sym, subst, ℕ, List, None, Some, length, get_or, slice_get, arith}
use Rattle.std.specs.Prelude.{IfSome, IfNone}
use Rattle.std.proofs.lemmas.Option.{slice_get_within}
use Rattle.vtr_base.specs.Lists.{Has}
use Rattle.list_laws.proofs.Members.{has_at}
use Rattle.pb_expand.specs.Graph.{pin_ix}
use Rattle.sparse_set.specs.Sets.{Held}
use Rattle.task_types.specs.declared.tree.Var.TheVariants as var
use Rattle.task_types.specs.Open.{AllowsStep}
use Rattle.search_rules.specs.Settled.{TakesStep}
use Rattle.search_rules.specs.Left.{IsNextVar}
use Rattle.search_ways.specs.Traces.{AreTraced, IsReached, IsStart}
use Rattle.search_choice.specs.Opens.{IsOpenVar, IsOpenEdge}
use Rattle.search_choice.proofs.Nexts.{here_pin, pin_inside, some_is, start_at, entry_next, place_inside, told_is, settled, step_back, var_next, more_back}
use Rattle.search_choice.proofs.ways.next_for.Goals as goal

pub returns-then-is_open_var-clause-some : goal.returns-then-is_open_var-clause-some
returns-then-is_open_var-clause-some c =
    let started = some_is c.in_ok-place.field-0 c.in-Some.place (λ place. IsStart c.args.graph.now c.args.net.now.atoms c.args.task.now c.args.trail.now.made c.args.need c.reach.new.reached.items place) c.in-Some.is c.in_ok-place.ensures.found in
    let here : get_or c.as_slice-pins.result.now c.in-Some.place 0 ≡ started.pin = here_pin c.reach.new.reached.items c.as_slice-pins.result.now c.in-Some.place started.pin c.as_slice-pins.ensures started.is in
    let open' = c.is_open_var.ensures.0 c.if-is_open_var.true in
    subst (λ (pin : ℕ). IsNextVar c.args.graph.now c.args.net.now.atoms c.args.task.now c.args.trail.now.made (var.Entry (pin_ix pin))) (sym here)
    (entry_next c.args.graph.now c.args.net.now.atoms c.args.task.now c.args.trail.now.made c.requires.modes c.args.need started.pin started.start c.requires.active.0 c.requires.active.1
    (c.in_ok-place.ensures.reached started.pin (has_at c.reach.new.reached.items c.in-Some.place started.pin started.is))
    (subst (λ (pin : ℕ). IsOpenVar c.args.graph.now c.args.task.now c.args.trail.now.made (var.Entry (pin_ix pin))) here open'))

pub index-requires : goal.index-requires
index-requires c =
    let begun = subst (λ (pins : List ℕ). IsStart c.args.graph.now c.args.net.now.atoms c.args.task.now c.args.trail.now.made c.args.need pins c.in-Some.place) (sym c.as_slice-pins.ensures) (some_is c.in_ok-place.field-0 c.in-Some.place (λ place. IsStart c.args.graph.now c.args.net.now.atoms c.args.task.now c.args.trail.now.made c.args.need c.reach.new.reached.items place) c.in-Some.is c.in_ok-place.ensures.found) in
    let source = c.loop-before.invariant.0 in
    let back = c.loop-before.invariant.1.1 in
    let start = start_at c.args.graph.now c.args.net.now.atoms c.args.task.now c.args.trail.now.made c.args.need c.as_slice-pins.result.now c.in-Some.place source begun c.loop-before.invariant.1.0 in
    let traced = subst (λ (pins : List ℕ). AreTraced c.args.graph.now c.args.net.now.atoms c.args.task.now c.args.trail.now.made c.args.need pins c.reach.new.from.items) (sym c.as_slice-pins.ensures) c.in_ok-place.ensures.traced in
    let less = place_inside c.args.graph.now c.args.net.now.atoms c.args.task.now c.args.trail.now.made c.requires.modes c.args.need source start c.as_slice-pins.result.now c.reach.new.from.items traced c.loop-before.at back in
    omega (arith, less, c.reach.new.from.ok)

pub bounds-pins-at : goal.bounds-pins-at
bounds-pins-at c =
    let begun = subst (λ (pins : List ℕ). IsStart c.args.graph.now c.args.net.now.atoms c.args.task.now c.args.trail.now.made c.args.need pins c.in-Some.place) (sym c.as_slice-pins.ensures) (some_is c.in_ok-place.field-0 c.in-Some.place (λ place. IsStart c.args.graph.now c.args.net.now.atoms c.args.task.now c.args.trail.now.made c.args.need c.reach.new.reached.items place) c.in-Some.is c.in_ok-place.ensures.found) in
    let source = c.loop-before.invariant.0 in
    let back = c.loop-before.invariant.1.1 in
    let start = start_at c.args.graph.now c.args.net.now.atoms c.args.task.now c.args.trail.now.made c.args.need c.as_slice-pins.result.now c.in-Some.place source begun c.loop-before.invariant.1.0 in
    let traced = subst (λ (pins : List ℕ). AreTraced c.args.graph.now c.args.net.now.atoms c.args.task.now c.args.trail.now.made c.args.need pins c.reach.new.from.items) (sym c.as_slice-pins.ensures) c.in_ok-place.ensures.traced in
    let told = told_is c.args.graph.now c.args.net.now.atoms c.args.task.now c.args.trail.now.made c.requires.modes c.args.need source start c.as_slice-pins.result.now c.reach.new.from.items traced c.loop-before.at back c.index.result.now (Some c.in-Some-index.before) c.index.ensures c.in-Some-index.is in
    let step = step_back c.args.graph.now c.args.net.now.atoms c.args.task.now c.args.trail.now.made c.requires.modes c.args.need source start c.as_slice-pins.result.now c.reach.new.from.items traced c.loop-before.at back c.in-Some-index.before told in
    slice_get_within c.as_slice-pins.result.now c.in-Some-index.before step.pin step.is

pub next_edge-var-requires-clause-inside : goal.next_edge-var-requires-clause-inside
next_edge-var-requires-clause-inside c =
    let begun = subst (λ (pins : List ℕ). IsStart c.args.graph.now c.args.net.now.atoms c.args.task.now c.args.trail.now.made c.args.need pins c.in-Some.place) (sym c.as_slice-pins.ensures) (some_is c.in_ok-place.field-0 c.in-Some.place (λ place. IsStart c.args.graph.now c.args.net.now.atoms c.args.task.now c.args.trail.now.made c.args.need c.reach.new.reached.items place) c.in-Some.is c.in_ok-place.ensures.found) in
    let source = c.loop-before.invariant.0 in
    let back = c.loop-before.invariant.1.1 in
    let start = start_at c.args.graph.now c.args.net.now.atoms c.args.task.now c.args.trail.now.made c.args.need c.as_slice-pins.result.now c.in-Some.place source begun c.loop-before.invariant.1.0 in
    let traced = subst (λ (pins : List ℕ). AreTraced c.args.graph.now c.args.net.now.atoms c.args.task.now c.args.trail.now.made c.args.need pins c.reach.new.from.items) (sym c.as_slice-pins.ensures) c.in_ok-place.ensures.traced in
    let told = told_is c.args.graph.now c.args.net.now.atoms c.args.task.now c.args.trail.now.made c.requires.modes c.args.need source start c.as_slice-pins.result.now c.reach.new.from.items traced c.loop-before.at back c.index.result.now (Some c.in-Some-index.before) c.index.ensures c.in-Some-index.is in
    let step = step_back c.args.graph.now c.args.net.now.atoms c.args.task.now c.args.trail.now.made c.requires.modes c.args.need source start c.as_slice-pins.result.now c.reach.new.from.items traced c.loop-before.at back c.in-Some-index.before told in
    let here : get_or c.as_slice-pins.result.now c.in-Some-index.before 0 ≡ step.pin = here_pin c.as_slice-pins.result.now c.as_slice-pins.result.now c.in-Some-index.before step.pin refl step.is in
    let room : c.reach.new.reached.room ≡ length c.args.graph.now.pins = c.in_ok-place.ensures.room ∙ ap (λ (h : Held). h.room) c.requires.reached in
    let less = pin_inside c.reach.new.reached.items c.as_slice-pins.result.now c.in-Some-index.before step.pin c.reach.new.reached.room c.as_slice-pins.ensures c.law-2.ensures.inside step.is in
    omega (arith, here, less, room)

pub returns-then-is_some-clause-some : goal.returns-then-is_some-clause-some
returns-then-is_some-clause-some c =
    let begun = subst (λ (pins : List ℕ). IsStart c.args.graph.now c.args.net.now.atoms c.args.task.now c.args.trail.now.made c.args.need pins c.in-Some.place) (sym c.as_slice-pins.ensures) (some_is c.in_ok-place.field-0 c.in-Some.place (λ place. IsStart c.args.graph.now c.args.net.now.atoms c.args.task.now c.args.trail.now.made c.args.need c.reach.new.reached.items place) c.in-Some.is c.in_ok-place.ensures.found) in
    let source = c.loop-before.invariant.0 in
    let back = c.loop-before.invariant.1.1 in
    let start = start_at c.args.graph.now c.args.net.now.atoms c.args.task.now c.args.trail.now.made c.args.need c.as_slice-pins.result.now c.in-Some.place source begun c.loop-before.invariant.1.0 in
    let traced = subst (λ (pins : List ℕ). AreTraced c.args.graph.now c.args.net.now.atoms c.args.task.now c.args.trail.now.made c.args.need pins c.reach.new.from.items) (sym c.as_slice-pins.ensures) c.in_ok-place.ensures.traced in
    let told = told_is c.args.graph.now c.args.net.now.atoms c.args.task.now c.args.trail.now.made c.requires.modes c.args.need source start c.as_slice-pins.result.now c.reach.new.from.items traced c.loop-before.at back c.index.result.now (Some c.in-Some-index.before) c.index.ensures c.in-Some-index.is in
    let step = step_back c.args.graph.now c.args.net.now.atoms c.args.task.now c.args.trail.now.made c.requires.modes c.args.need source start c.as_slice-pins.result.now c.reach.new.from.items traced c.loop-before.at back c.in-Some-index.before told in
    let here : get_or c.as_slice-pins.result.now c.in-Some-index.before 0 ≡ step.pin = here_pin c.as_slice-pins.result.now c.as_slice-pins.result.now c.in-Some-index.before step.pin refl step.is in
    var_next c.args.graph.now c.args.net.now.atoms c.args.task.now c.args.trail.now.made c.requires.modes c.args.need source start c.as_slice-pins.result.now c.reach.new.from.items traced c.loop-before.at back c.in-Some-index.before told c.requires.active.0 c.requires.active.1
    (λ pin has. c.in_ok-place.ensures.reached pin (subst (λ (l : List ℕ). Has l pin) c.as_slice-pins.ensures has))
    c.next_edge-var.result (sym c.is_some.ensures ∙ c.if-is_some.true)
    (subst (λ (pin : ℕ). IfSome c.next_edge-var.result (IsOpenEdge c.args.graph.now c.args.task.now c.args.trail.now.made pin)) here c.next_edge-var.ensures.next)

pub loop-before-smaller : goal.loop-before-smaller
loop-before-smaller c =
    let begun = subst (λ (pins : List ℕ). IsStart c.args.graph.now c.args.net.now.atoms c.args.task.now c.args.trail.now.made c.args.need pins c.in-Some.place) (sym c.as_slice-pins.ensures) (some_is c.in_ok-place.field-0 c.in-Some.place (λ place. IsStart c.args.graph.now c.args.net.now.atoms c.args.task.now c.args.trail.now.made c.args.need c.reach.new.reached.items place) c.in-Some.is c.in_ok-place.ensures.found) in
    let source = c.loop-before.invariant.0 in
    let back = c.loop-before.invariant.1.1 in
    let start = start_at c.args.graph.now c.args.net.now.atoms c.args.task.now c.args.trail.now.made c.args.need c.as_slice-pins.result.now c.in-Some.place source begun c.loop-before.invariant.1.0 in
    let traced = subst (λ (pins : List ℕ). AreTraced c.args.graph.now c.args.net.now.atoms c.args.task.now c.args.trail.now.made c.args.need pins c.reach.new.from.items) (sym c.as_slice-pins.ensures) c.in_ok-place.ensures.traced in
    let told = told_is c.args.graph.now c.args.net.now.atoms c.args.task.now c.args.trail.now.made c.requires.modes c.args.need source start c.as_slice-pins.result.now c.reach.new.from.items traced c.loop-before.at back c.index.result.now (Some c.in-Some-index.before) c.index.ensures c.in-Some-index.is in
    (step_back c.args.graph.now c.args.net.now.atoms c.args.task.now c.args.trail.now.made c.requires.modes c.args.need source start c.as_slice-pins.result.now c.reach.new.from.items traced c.loop-before.at back c.in-Some-index.before told).less

pub loop-before-preserved : goal.loop-before-preserved
loop-before-preserved c =
    let begun = subst (λ (pins : List ℕ). IsStart c.args.graph.now c.args.net.now.atoms c.args.task.now c.args.trail.now.made c.args.need pins c.in-Some.place) (sym c.as_slice-pins.ensures) (some_is c.in_ok-place.field-0 c.in-Some.place (λ place. IsStart c.args.graph.now c.args.net.now.atoms c.args.task.now c.args.trail.now.made c.args.need c.reach.new.reached.items place) c.in-Some.is c.in_ok-place.ensures.found) in
    let source = c.loop-before.invariant.0 in
    let back = c.loop-before.invariant.1.1 in
    let start = start_at c.args.graph.now c.args.net.now.atoms c.args.task.now c.args.trail.now.made c.args.need c.as_slice-pins.result.now c.in-Some.place source begun c.loop-before.invariant.1.0 in
    let traced = subst (λ (pins : List ℕ). AreTraced c.args.graph.now c.args.net.now.atoms c.args.task.now c.args.trail.now.made c.args.need pins c.reach.new.from.items) (sym c.as_slice-pins.ensures) c.in_ok-place.ensures.traced in
    let told = told_is c.args.graph.now c.args.net.now.atoms c.args.task.now c.args.trail.now.made c.requires.modes c.args.need source start c.as_slice-pins.result.now c.reach.new.from.items traced c.loop-before.at back c.index.result.now (Some c.in-Some-index.before) c.index.ensures c.in-Some-index.is in
    let step = step_back c.args.graph.now c.args.net.now.atoms c.args.task.now c.args.trail.now.made c.requires.modes c.args.need source start c.as_slice-pins.result.now c.reach.new.from.items traced c.loop-before.at back c.in-Some-index.before told in
    let here : get_or c.as_slice-pins.result.now c.in-Some-index.before 0 ≡ step.pin = here_pin c.as_slice-pins.result.now c.as_slice-pins.result.now c.in-Some-index.before step.pin refl step.is in (
      source,
      (
        c.loop-before.invariant.1.0,
        more_back c.args.graph.now c.args.net.now.atoms c.args.task.now c.args.trail.now.made c.requires.modes c.args.need source start c.as_slice-pins.result.now c.reach.new.from.items traced c.loop-before.at back c.in-Some-index.before told c.next_edge-var.result (sym c.is_some.ensures ∙ c.if-is_some.false)
            (subst (λ (pin : ℕ). IfNone c.next_edge-var.result ((q : ℕ) → AllowsStep c.args.graph.now c.args.trail.now.made pin q → TakesStep c.args.graph.now c.args.trail.now.made pin q)) here c.next_edge-var.ensures.decided),
      ),
    )

pub returns-clause-settled : goal.returns-clause-settled
returns-clause-settled c =
    let begun = subst (λ (pins : List ℕ). IsStart c.args.graph.now c.args.net.now.atoms c.args.task.now c.args.trail.now.made c.args.need pins c.in-Some.place) (sym c.as_slice-pins.ensures) (some_is c.in_ok-place.field-0 c.in-Some.place (λ place. IsStart c.args.graph.now c.args.net.now.atoms c.args.task.now c.args.trail.now.made c.args.need c.reach.new.reached.items place) c.in-Some.is c.in_ok-place.ensures.found) in
    let source = c.loop-before.invariant.0 in
    let back = c.loop-before.invariant.1.1 in
    let start = start_at c.args.graph.now c.args.net.now.atoms c.args.task.now c.args.trail.now.made c.args.need c.as_slice-pins.result.now c.in-Some.place source begun c.loop-before.invariant.1.0 in
    let traced = subst (λ (pins : List ℕ). AreTraced c.args.graph.now c.args.net.now.atoms c.args.task.now c.args.trail.now.made c.args.need pins c.reach.new.from.items) (sym c.as_slice-pins.ensures) c.in_ok-place.ensures.traced in
    let here : get_or c.as_slice-pins.result.now c.in-Some.place 0 ≡ source = here_pin c.as_slice-pins.result.now c.as_slice-pins.result.now c.in-Some.place source refl c.loop-before.invariant.1.0 in
    let told = told_is c.args.graph.now c.args.net.now.atoms c.args.task.now c.args.trail.now.made c.requires.modes c.args.need source start c.as_slice-pins.result.now c.reach.new.from.items traced c.loop-before.at back c.index.result.now None c.index.ensures c.in_default-index.is in
    settled c.args.graph.now c.args.net.now.atoms c.args.task.now c.args.trail.now.made c.requires.modes c.args.need source start c.as_slice-pins.result.now c.reach.new.from.items traced c.loop-before.at back c.law.ensures c.requires.leaves c.requires.homes
    (λ open'. (
    let there = subst (λ (pin : ℕ). IsOpenVar c.args.graph.now c.args.task.now c.args.trail.now.made (var.Entry (pin_ix pin))) (sym here) open' in
    let bad : ⊥ = cc (sym c.if-is_open_var.false ∙ c.is_open_var.ensures.1 there) in
    bad))
    told
