use Rattle.std.proofs.Common.{arith}
use Rattle.prog_text.proofs.Descends.{out_of, nil_by, some_by, at_itself, no_step_down, no_kid_down, below_looked_up, kid_inside, rest_shorter}
use Rattle.prog_text.proofs.graph.GraphNames.+below.Goals as goal

pub returns-then-is_empty : goal.returns-then-is_empty
returns-then-is_empty t c = at_itself c.args.graph.now c.law.ensures c.args.pb.0 c.args.steps.now c.requires.there (nil_by c.args.steps.now c.if-is_empty.ensures)

pub returns-in_err-step : goal.returns-in_err-step
returns-in_err-step t c =
    out_of _ _ c.from_residual.result c.from_residual.ensures
    (no_step_down c.args.graph.now c.law.ensures c.requires.of.plain c.requires.of.tables.hung c.args.pb.0 c.args.steps.now (some_by c.args.steps.now c.if-is_empty.ensures) c.in_err-step.ensures)

pub returns-in_err-kid : goal.returns-in_err-kid
returns-in_err-kid t c =
    out_of _ _ c.from_residual-in_err-kid.result c.from_residual-in_err-kid.ensures
    (no_kid_down c.args.graph.now c.law.ensures c.requires.of.plain c.requires.of.tables.hung c.args.pb.0 c.args.steps.now (some_by c.args.steps.now c.if-is_empty.ensures) _ _ _ _
    c.in_ok-step.ensures c.in_err-kid.ensures)

pub below-requires : goal.below-requires
below-requires t c =
    let less = rest_shorter _ _ _ _ _ c.in_ok-step.ensures in
    let d = c.decreases in
    (omega (arith, less, d), (kid_inside c.args.graph.now c.law.ensures _ _ _ _ _ c.in_ok-kid.ensures, c.requires.of))

pub returns : goal.returns
returns t c =
    below_looked_up c.args.graph.now c.law.ensures c.requires.of.plain c.requires.of.tables.hung c.args.pb.0 c.args.steps.now (some_by c.args.steps.now c.if-is_empty.ensures) _ _ _ _
    c.in_ok-step.ensures _ c.in_ok-kid.ensures _ c.below.ensures
