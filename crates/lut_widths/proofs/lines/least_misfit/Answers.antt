use Rattle.std.proofs.Common.{map, take, sym, subst}
use Rattle.lut_widths.specs.Fields.{IsLeast}
use Rattle.lut_widths.proofs.Lining.{lines_more, seen_taken, lines_all}
use Rattle.lut_widths.proofs.lines.least_misfit.Goals as goal

pub loop-line-preserved : goal.loop-line-preserved
loop-line-preserved c =
    let kids = map (λ k. k.now) c.args.kids.now in
    let before = take c.loop-line.line-index c.args.lines.now in
    record {
      seen = seen_taken c.in_ok-table.table.names c.args.lines.now c.loop-line.line-index c.line-item.result c.line_misfits.new.seen.keys c.loop-line-test.true c.line-item.is
          (c.in_ok-misfits.ensures.seen kids before c.in_ok-table.ensures c.loop-line.invariant.seen);
      least = subst (IsLeast _) (sym c.with_line-least.ensures)
          (lines_more kids c.args.lines.now c.loop-line.line-index c.line-item.result c.loop-line.least c.in_ok-misfits.misfits c.loop-line-test.true c.line-item.is
          (c.in_ok-misfits.ensures.misfits kids before c.in_ok-table.ensures c.loop-line.invariant.seen) c.loop-line.invariant.least);
    }

pub returns : goal.returns
returns c = lines_all (map (λ k. k.now) c.args.kids.now) c.args.lines.now c.loop-line.line-index c.loop-line.least c.loop-line-test.false c.loop-line.invariant.least
