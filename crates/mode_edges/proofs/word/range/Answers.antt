use Rattle.mode_edges.proofs.NoReading.{no_range_alone, no_range_first, no_range_second}
use Rattle.mode_edges.proofs.WasRead.{reads_alone, reads_pair}
use Rattle.mode_edges.proofs.word.range.Goals as goal

pub returns-in_err-n : goal.returns-in_err-n
returns-in_err-n c = rw c.from_residual.ensures (no_range_alone c.args.text.now c.in_default.ensures c.in_err-n.ensures)

pub returns-in_err-m : goal.returns-in_err-m
returns-in_err-m c =
    rw c.from_residual-in_err-m.ensures (no_range_first c.args.text.now c.in-Some.one.now c.in-Some.other.now c.in-Some.ensures c.in_err-m.ensures)

pub returns-in_err-l : goal.returns-in_err-l
returns-in_err-l c =
    rw c.from_residual-in_err-l.ensures (no_range_second c.args.text.now c.in-Some.one.now c.in-Some.other.now c.in-Some.ensures c.in_err-l.ensures)

pub returns-in_default : goal.returns-in_default
returns-in_default c = reads_alone c.args.text.now c.in_ok-n.n c.in_ok-n.ensures

pub returns : goal.returns
returns c =
    reads_pair c.args.text.now c.in-Some.one.now c.in-Some.other.now c.in_ok-m.m c.in_ok-l.l c.min.result c.max.result c.in-Some.ensures
    c.in_ok-m.ensures c.in_ok-l.ensures c.min.ensures c.max.ensures
