use Rattle.std.proofs.Common.{sym}
use Rattle.mode_edges.proofs.Verdicts.{TwoWidths, WideHere, two_widths, wide_mux, faultless, at_both, not_so}
use Rattle.mode_edges.proofs.faults.check_inter.Goals as goal

pub returns-then-has_two_widths : goal.returns-then-has_two_widths
returns-then-has_two_widths c =
    two_widths c.args.names.now.block c.args.names.now.mode c.args.inter.now c.as_bytes.result.now c.as_bytes-2.result.now c.in_ok-copy-3.field-0
    c.in-Some.ins.items c.in-Some-2.outs.items
    (record { is_input = c.as_bytes.ensures; is_output = c.as_bytes-2.ensures; reads_ins = rw c.in-Some.is at c.in_ok-ins.ensures; reads_outs = rw c.in-Some-2.is at c.in_ok-outs.ensures })
    c.in_ok-copy-3.ensures
    (at_both (TwoWidths c.args.inter.now.kind) c.as_slice.result.now c.as_slice-2.result.now c.in-Some.ins.items c.in-Some-2.outs.items
    c.as_slice.ensures.value c.as_slice-2.ensures.value (c.has_two_widths.ensures.0 c.if-has_two_widths.true))

pub returns-then-is_wide_mux : goal.returns-then-is_wide_mux
returns-then-is_wide_mux c =
    wide_mux c.args.names.now.block c.args.names.now.mode c.args.inter.now c.as_bytes.result.now c.as_bytes-2.result.now c.in_ok-copy-4.field-0
    c.in-Some.ins.items c.in-Some-2.outs.items
    (record { is_input = c.as_bytes.ensures; is_output = c.as_bytes-2.ensures; reads_ins = rw c.in-Some.is at c.in_ok-ins.ensures; reads_outs = rw c.in-Some-2.is at c.in_ok-outs.ensures })
    c.in_ok-copy-4.ensures
    (at_both (WideHere c.args.inter.now.kind) c.as_slice-3.result.now c.as_slice-4.result.now c.in-Some.ins.items c.in-Some-2.outs.items
    c.as_slice-3.ensures.value c.as_slice-4.ensures.value (c.is_wide_mux.ensures.0 c.if-is_wide_mux.true))

pub returns : goal.returns
returns c =
    faultless c.args.names.now.block c.args.names.now.mode c.args.inter.now c.as_bytes.result.now c.as_bytes-2.result.now
    c.in-Some.ins.items c.in-Some-2.outs.items
    (record { is_input = c.as_bytes.ensures; is_output = c.as_bytes-2.ensures; reads_ins = rw c.in-Some.is at c.in_ok-ins.ensures; reads_outs = rw c.in-Some-2.is at c.in_ok-outs.ensures })
    (λ two. not_so c.has_two_widths.result c.has_two_widths.ensures c.if-has_two_widths.false
    (at_both (TwoWidths c.args.inter.now.kind) c.in-Some.ins.items c.in-Some-2.outs.items c.as_slice.result.now c.as_slice-2.result.now
    (sym c.as_slice.ensures.value) (sym c.as_slice-2.ensures.value) two))
    (λ wide. not_so c.is_wide_mux.result c.is_wide_mux.ensures c.if-is_wide_mux.false
    (at_both (WideHere c.args.inter.now.kind) c.in-Some.ins.items c.in-Some-2.outs.items c.as_slice-3.result.now c.as_slice-4.result.now
    (sym c.as_slice-3.ensures.value) (sym c.as_slice-4.ensures.value) wide))
