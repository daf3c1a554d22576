use Rattle.std.proofs.Common.{sym, subst, ℕ, Option, length, nat_lt, arith}
use Rattle.std.proofs.lemmas.Bool.{OnTrue_from, ltb-true}
use Rattle.vtr_base.specs.Lists.{Has, up_from}
use Rattle.task_options.specs.Choosing.{or_none}
use Rattle.first_try.proofs.Options.{of_some_below}
use Rattle.first_try.proofs.decide.is_net.Goals as goal

pub returns-in-Some : goal.returns-in-Some
returns-in-Some c =
    OnTrue_from (nat_lt c.in-Some.net c.len.result) (Has (or_none (up_from 0 (length c.args.task.now.nets))) c.args.net)
    (λ yes. (
    let less = ltb-true c.in-Some.net c.len.result yes in
    subst (λ (n : Option ℕ). Has (or_none (up_from 0 (length c.args.task.now.nets))) n) (sym c.in-Some.is) (of_some_below (length c.args.task.now.nets) c.in-Some.net (omega (arith, less, c.len.ensures)))))
