use Rattle.std.proofs.Common.{ap, subst}
use Rattle.vtr_base.specs.Lists.{Has}
use Rattle.rr_places.proofs.switches.next_switch.Goals as goal

pub returns-in_err-switch : goal.returns-in_err-switch
returns-in_err-switch c = rw c.from_residual.ensures (λ s says. absurd (c.in_err-switch.ensures s says))

pub returns-in-Some : goal.returns-in-Some
returns-in-Some c = λ s says. (
  c.in-Some.field-0.now,
  subst (λ id. Has c.args.by_id.now.entries (id, c.in-Some.field-0.now))
      (ap (λ t. t.id) (c.one_item.ensures.switch c.args.elem.now c.in_ok-switch.switch s c.in_ok-switch.ensures says)) c.in-Some.ensures,
)
