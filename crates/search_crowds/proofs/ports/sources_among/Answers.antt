use Rattle.std.proofs.Common.{◌≡◌, ◌+◌, ℕ, Vec, Global, true, false, refl, sym, ap, subst, ◌∙◌}
use Rattle.std.proofs.lemmas.Option.{slice_get-get_or}
use Rattle.list_laws.proofs.Members.{has_at}
use Rattle.search_crowds.proofs.Webbing.{AreSourcesSoFar, sources_push, sources_skip, sources_all}
use Rattle.search_crowds.proofs.ports.sources_among.Goals as goal
use Rattle.search_crowds.proofs.ports.sources_among.Goals.{then-starts_one+in_ok-push, else-starts_one}

pub starts_one-requires-clause-pin : goal.starts_one-requires-clause-pin
starts_one-requires-clause-pin c = c.requires.inside _ (has_at c.args.pins.now c.loop-pin.pin-index _ (slice_get-get_or c.args.pins.now c.loop-pin.pin-index 0 c.loop-pin-test.true))

pub loop-pin-preserved : goal.loop-pin-preserved
loop-pin-preserved c =
    let at = slice_get-get_or c.args.pins.now c.loop-pin.pin-index 0 c.loop-pin-test.true in
    elim c.if-starts_one.branch [
      | then-starts_one+in_ok-push w ↦ (
          let is = ap (λ (v : Vec ℕ Global). v.items) w.sources-is ∙ w.in_ok-push.ensures.items in
          subst (λ l. AreSourcesSoFar c.args.graph.now c.args.net.now.atoms c.args.task.now c.args.trail.now.made c.args.needs.now c.args.pins.now (c.loop-pin.pin-index + 1) l) (sym is)
          (sources_push c.args.graph.now c.args.net.now.atoms c.args.task.now c.args.trail.now.made c.args.needs.now c.args.pins.now c.loop-pin.pin-index c.loop-pin.sources.items _ at c.loop-pin.invariant (w.if-starts_one.ensures.0 refl)))
      | else-starts_one w ↦ (
          let is = ap (λ (v : Vec ℕ Global). v.items) w.sources-is in
          subst (λ l. AreSourcesSoFar c.args.graph.now c.args.net.now.atoms c.args.task.now c.args.trail.now.made c.args.needs.now c.args.pins.now (c.loop-pin.pin-index + 1) l) (sym is)
          (sources_skip c.args.graph.now c.args.net.now.atoms c.args.task.now c.args.trail.now.made c.args.needs.now c.args.pins.now c.loop-pin.pin-index c.loop-pin.sources.items _ at c.loop-pin.invariant
          (λ starts. let bad : false ≡ true = w.if-starts_one.ensures.1 starts in cc bad)))
    ]

pub returns : goal.returns
returns c =
    sources_all c.args.graph.now c.args.net.now.atoms c.args.task.now c.args.trail.now.made c.args.needs.now c.args.pins.now c.loop-pin.pin-index c.loop-pin.sources.items c.loop-pin-test.false c.loop-pin.invariant
