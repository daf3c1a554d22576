use Rattle.std.proofs.Common.{sym, subst}
use Rattle.std.proofs.lemmas.Bool.{OnTrue_at, OnTrue_from}
use Rattle.vtr_base.specs.Lists.{Has}
use Rattle.task_types.specs.declared.decision.Decision.{Decision}
use Rattle.task_types.specs.Options.{options}
use Rattle.task_options.specs.Choosing.{var_of}
use Rattle.first_try.proofs.Options.{of_mode, of_occupant, of_edge, of_entry}
use Rattle.first_try.proofs.decide.is_option.Goals as goal

pub returns-in-Mode : goal.returns-in-Mode
returns-in-Mode c =
    OnTrue_from c.is_mode.result (Has (options c.args.graph.now c.args.task.now c.args.trail.now.made (var_of c.args.decision)) c.args.decision)
    (λ yes. subst (λ (d : Decision). Has (options c.args.graph.now c.args.task.now c.args.trail.now.made (var_of d)) d) (sym c.in-Mode.is)
    (of_mode c.args.graph.now c.args.task.now c.args.trail.now.made c.in-Mode.pb c.in-Mode.mode (OnTrue_at yes c.is_mode.ensures)))

pub returns-in-Occupant : goal.returns-in-Occupant
returns-in-Occupant c =
    OnTrue_from c.is_occupant.result (Has (options c.args.graph.now c.args.task.now c.args.trail.now.made (var_of c.args.decision)) c.args.decision)
    (λ yes. subst (λ (d : Decision). Has (options c.args.graph.now c.args.task.now c.args.trail.now.made (var_of d)) d) (sym c.in-Occupant.is)
    (of_occupant c.args.graph.now c.args.task.now c.args.trail.now.made c.in-Occupant.leaf c.in-Occupant.occupant (OnTrue_at yes c.is_occupant.ensures)))

pub returns-in-Edge : goal.returns-in-Edge
returns-in-Edge c =
    OnTrue_from c.is_edge.result (Has (options c.args.graph.now c.args.task.now c.args.trail.now.made (var_of c.args.decision)) c.args.decision)
    (λ yes. subst (λ (d : Decision). Has (options c.args.graph.now c.args.task.now c.args.trail.now.made (var_of d)) d) (sym c.in-Edge.is)
    (of_edge c.args.graph.now c.args.task.now c.args.trail.now.made c.in-Edge.pin c.in-Edge.mode c.in-Edge.edge (OnTrue_at yes c.is_edge.ensures)))

pub returns-in-Entry : goal.returns-in-Entry
returns-in-Entry c =
    OnTrue_from c.is_net.result (Has (options c.args.graph.now c.args.task.now c.args.trail.now.made (var_of c.args.decision)) c.args.decision)
    (λ yes. subst (λ (d : Decision). Has (options c.args.graph.now c.args.task.now c.args.trail.now.made (var_of d)) d) (sym c.in-Entry.is)
    (of_entry c.args.graph.now c.args.task.now c.args.trail.now.made c.in-Entry.field-0 c.in-Entry.net (OnTrue_at yes c.is_net.ensures)))
