use Rattle.std.proofs.Common.{Some, sym, ap, ◌∙◌}
use Rattle.rr_tables.specs.Looks.{direction_of}
use Rattle.rr_tables.proofs.Lookups.{switch_none, switch_found}
use Rattle.rr_tables.proofs.ends.EndsEndTable.switch_of.Goals as goal

pub returns-in_err-switch : goal.returns-in_err-switch
returns-in_err-switch c = rw (c.from_residual.ensures, ← c.self.view_is) (sym (switch_none c.self.inside.switches c.args.id c.in_err-switch.ensures))

pub returns-then-switch : goal.returns-then-switch
returns-then-switch c =
    rw (← c.self.view_is)
    (sym (switch_found c.self.inside.switches c.args.id c.in_ok-switch.switch c.self.invariant c.in_ok-switch.ensures ∙ ap (λ b. Some (direction_of b)) c.if-switch.true))

pub returns-else-switch : goal.returns-else-switch
returns-else-switch c =
    rw (← c.self.view_is)
    (sym (switch_found c.self.inside.switches c.args.id c.in_ok-switch.switch c.self.invariant c.in_ok-switch.ensures ∙ ap (λ b. Some (direction_of b)) c.if-switch.false))
