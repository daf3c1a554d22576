use Rattle.std.specs.Prelude.{ℕ}
use Rattle.task_types.specs.Ends.{IsInputAt}
use Rattle.task_types.specs.Open.{IsOpenTo}
use Rattle.task_reach.proofs.Growing.{gains_none}
use Rattle.task_reach.proofs.ends.put_input_ends.Goals as goal

pub returns-in_default-clause-gains : goal.returns-in_default-clause-gains
returns-in_default-clause-gains c =
    gains_none c.args.reached.now.items
    (λ pin. (leaf : ℕ) × IsOpenTo c.args.graph.now c.args.task.now c.args.trail.now.made c.args.place leaf × IsInputAt c.args.graph.now c.args.net.now.atoms c.args.task.now c.args.place c.args.conn leaf pin)
    (λ q found. c.in_default.ensures found.2.atom found.2.is_atom)
