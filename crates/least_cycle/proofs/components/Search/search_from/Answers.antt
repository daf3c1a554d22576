use Rattle.std.proofs.Common.{◌∙◌, sym}
use Rattle.least_cycle.proofs.Rounds.{round_on, entered_round, seen_round, not_unseen, last_component, no_path}
use Rattle.least_cycle.proofs.components.Search.search_from.Goals as goal
use Rattle.least_cycle.proofs.components.Search.search_from.Goals.{in-Unseen+in_ok-enter, in_default}

pub steps-init : goal.steps-init
steps-init c = elim c.match-index.branch [
  | in-Unseen+in_ok-enter w ↦ rw w.self-is (entered_round c.args.nexts.now c.args.root c.args.self.now _ w.in_ok-enter.ensures.goes_on w.in_ok-enter.ensures.node)
  | in_default w ↦ rw w.self-is (seen_round c.args.nexts.now c.args.root c.args.self.now c.requires.search
      (rw (← c.self.view_is) (not_unseen c.self.inside.places.items c.args.root c.index.result.now c.index.ensures w.in_default.not-Unseen)))
]

pub steps-preserved : goal.steps-preserved
steps-preserved c = round_on c.args.nexts.now c.args.root c.args.self.now c.steps.self c.step.new.self c.steps.invariant c.in_ok-step.ensures

pub step-requires-clause-last : goal.step-requires-clause-last
step-requires-clause-last c =
    let m = c.self-in-steps.inside in
    let at = rw c.deref.ensures.value at (sym (c.copied.ensures ∙ c.last.ensures.value) ∙ c.in-Some.is) in
    rw (← c.self-in-steps.view_is) (last_component (record { path = m.path.items; ahead = m.ahead.items; components = m.components.items; places = m.places.items; low = m.low }) c.in-Some.component at)

pub returns-clause-no_path : goal.returns-clause-no_path
returns-clause-no_path c = no_path c.args.nexts.now c.steps.self c.steps.invariant.search
    (rw (← c.self-in-steps.view_is, ← c.deref.ensures.value) (λ component at. c.in_default-copied.not-Some component ((c.copied.ensures ∙ c.last.ensures.value) ∙ at)))
