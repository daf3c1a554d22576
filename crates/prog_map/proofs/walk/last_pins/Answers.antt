use Rattle.std.proofs.Common.{◌≡◌, ap, arith, length, subst, sym, ◌∙◌}
use Rattle.prog_map.specs.Ends.{StayInside}
use Rattle.prog_map.specs.Walk.{AreSteps}
use Rattle.prog_map.proofs.ProgSteps.{stay, last_pins_are}
use Rattle.prog_map.proofs.walk.last_pins.Goals as goal

pub ends_of-requires-clause-inside : goal.ends_of-requires-clause-inside
ends_of-requires-clause-inside c = subst (λ l. StayInside l) (sym c.as_slice.ensures.value) (stay _ _ _ c.in_ok-steps.ensures)

pub ends_of-requires-clause-few : goal.ends_of-requires-clause-few
ends_of-requires-clause-few c =
    let long : length c.as_slice.result.now ≡ length c.in_ok-steps.steps.items = ap length c.as_slice.ensures.value in
    omega (arith, long, c.in_ok-steps.ensures.all, c.law.ensures.few_pins)

pub returns : goal.returns
returns c =
    last_pins_are _ _ c.as_slice.result.now c.in_ok-ends.ends.items c.in_ok-last.last.items
    (subst (λ l. AreSteps c.args.graph.now c.args.prog.now l) (sym c.as_slice.ensures.value) c.in_ok-steps.ensures) c.in_ok-ends.ensures.all
    c.in_ok-ends.ensures.last (c.in_ok-last.ensures ∙ c.as_slice-2.ensures.value)
