use Rattle.std.proofs.Common.{arith}
use Rattle.std.proofs.lemmas.Result.{err_from_is_err_and}
use Rattle.real_text.proofs.Along.{along_first, along_next, along_stops, along_short}
use Rattle.real_text.proofs.lines.read_lines.Goals as goal

pub loop-line-init : goal.loop-line-init
loop-line-init c = record {
  along = along_first c.args.graph.now c.args.task.now c.args.atoms.now c.args.nets.now c.args.bytes.now _ c.in_ok-reading.ensures.nothing;
  order = c.in_ok-reading.ensures.order;
  of = c.in_ok-reading.ensures.of;
}

pub loop-line-preserved : goal.loop-line-preserved
loop-line-preserved c = record {
  along =
      along_next c.args.graph.now c.args.task.now c.args.atoms.now c.args.nets.now _ _ _ _ _ _ _ _ c.loop-line.invariant.along c.in-Some.ensures.line c.in_ok-add_line.ensures.reads
      (omega (arith, c.saturating_add-number.ensures));
  order = c.in_ok-add_line.ensures.order;
  of = c.in_ok-add_line.ensures.of;
}

pub returns-in_err-add_line-clause-refused : goal.returns-in_err-add_line-clause-refused
returns-in_err-add_line-clause-refused c =
    let p = err_from_is_err_and c.from_residual-in_err-add_line.result c.from_residual-in_err-add_line.ensures.1 in
    rw (p.1, p.2)
    (along_stops c.args.graph.now c.args.task.now c.args.atoms.now c.args.nets.now c.args.bytes.now _ _ c.in-Some.behind.now _ _ _ c.loop-line.invariant.along c.in-Some.ensures.line
    c.in_err-add_line.ensures.refused)

pub returns-then-len-clause-refused : goal.returns-then-len-clause-refused
returns-then-len-clause-refused c =
    along_short c.args.graph.now c.args.task.now c.args.atoms.now c.args.nets.now c.args.bytes.now c.loop-line.rest.now c.loop-line.reading.real c.loop-line.number
    c.loop-line.invariant.along c.in_default.ensures.line (omega arith)
