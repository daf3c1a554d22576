use Rattle.std.proofs.Common.{length, sym, ap, ◌∙◌, arith}
use Rattle.task_types.specs.Options.{options}
use Rattle.task_options.proofs.Counts.{mode_options, leaf_options, entry_options}
use Rattle.task_options.proofs.count.option_count.Goals as goal

pub returns-in-Mode : goal.returns-in-Mode
returns-in-Mode c =
    c.mode_count.ensures ∙ sym (mode_options c.args.graph.now c.args.task.now c.args.trail.now.made c.in-Mode.pb) ∙ ap (λ v. length (options c.args.graph.now c.args.task.now c.args.trail.now.made v)) (sym c.in-Mode.is)

pub returns-in-Occupant : goal.returns-in-Occupant
returns-in-Occupant c =
    let all = leaf_options c.args.graph.now c.args.task.now c.args.trail.now.made c.in-Occupant.pb in
    omega (arith, all, ap (λ v. length (options c.args.graph.now c.args.task.now c.args.trail.now.made v)) c.in-Occupant.is, c.atoms_left.ensures, c.wires_at.ensures.wires)

pub returns-in-Entry : goal.returns-in-Entry
returns-in-Entry c =
    let all = entry_options c.args.graph.now c.args.task.now c.args.trail.now.made c.in-Entry.field-0 in
    omega (arith, all, ap (λ v. length (options c.args.graph.now c.args.task.now c.args.trail.now.made v)) c.in-Entry.is, c.len.ensures)
