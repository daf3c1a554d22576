use Rattle.std.proofs.Common.{sym, subst, arith}
use Rattle.lut_widths.specs.Sizes.{AreSizes, AtSome, InChild, InMode}
use Rattle.lut_widths.proofs.Holding.{lut_holds_itself, modes_hold, other_holds_none, child_holds, child_holds_none, no_instance, mode_holds, mode_holds_none}
use Rattle.lut_widths.proofs.Sizing.{sizes_more, sizes_all}
use Rattle.lut_widths.proofs.sizes.+held.Goals as goal

pub held_sizes-returns-in-Lut : goal.held_sizes-returns-in-Lut
held_sizes-returns-in-Lut t c = lut_holds_itself c.args.block.now c.own_size.result c.in-Lut.is c.own_size.ensures

pub held_sizes-returns-in-Modes : goal.held_sizes-returns-in-Modes
held_sizes-returns-in-Modes t c = modes_hold c.args.block.now c.in-Modes.modes c.modes_sizes.result c.in-Modes.is (subst (λ l. AreSizes (AtSome InMode l) c.modes_sizes.result) c.as_slice.ensures c.modes_sizes.ensures)

pub held_sizes-returns-in-InPad : goal.held_sizes-returns-in-InPad
held_sizes-returns-in-InPad t c = other_holds_none c.args.block.now c.in-InPad.is

pub held_sizes-returns-in-InPad-2 : goal.held_sizes-returns-in-InPad-2
held_sizes-returns-in-InPad-2 t c = other_holds_none c.args.block.now c.in-InPad.is

pub held_sizes-returns-in-InPad-3 : goal.held_sizes-returns-in-InPad-3
held_sizes-returns-in-InPad-3 t c = other_holds_none c.args.block.now c.in-InPad.is

pub held_sizes-returns-in-InPad-4 : goal.held_sizes-returns-in-InPad-4
held_sizes-returns-in-InPad-4 t c = other_holds_none c.args.block.now c.in-InPad.is

pub kid_sizes-returns-then-kid-eq0 : goal.kid_sizes-returns-then-kid-eq0
kid_sizes-returns-then-kid-eq0 t c = no_instance c.args.kid.now c.if-kid-eq0.true

pub kid_sizes-returns-then-holds_luts : goal.kid_sizes-returns-then-holds_luts
kid_sizes-returns-then-holds_luts t c = child_holds_none c.args.kid.now c.as_slice.result.now c.holds_luts.result c.as_slice.ensures c.holds_luts.ensures c.if-holds_luts.true

pub kid_sizes-returns : goal.kid_sizes-returns
kid_sizes-returns t c =
    child_holds c.args.kid.now c.as_slice.result.now c.holds_luts.result c.held_sizes.result c.as_slice.ensures c.holds_luts.ensures c.if-holds_luts.false (omega (arith, c.if-kid-eq0.false)) c.held_sizes.ensures

pub mode_sizes-returns-else-holds_luts : goal.mode_sizes-returns-else-holds_luts
mode_sizes-returns-else-holds_luts t c =
    mode_holds c.args.mode.now c.as_slice.result.now c.as_slice-else-holds_luts.result.now c.holds_luts.result c.kids_sizes.result c.as_slice.ensures c.holds_luts.ensures c.if-holds_luts.false
    c.as_slice-else-holds_luts.ensures c.kids_sizes.ensures

pub mode_sizes-returns-then-holds_luts : goal.mode_sizes-returns-then-holds_luts
mode_sizes-returns-then-holds_luts t c = mode_holds_none c.args.mode.now c.as_slice.result.now c.holds_luts.result c.as_slice.ensures c.holds_luts.ensures c.if-holds_luts.true

pub kids_sizes-loop-kid-preserved : goal.kids_sizes-loop-kid-preserved
kids_sizes-loop-kid-preserved t c =
    subst (AreSizes _) (sym c.with-sizes.ensures)
    (sizes_more InChild c.args.kids.now c.loop-kid.kid-index c.kid-item.result c.loop-kid.sizes c.kid_sizes.result c.loop-kid-test.true c.kid-item.is c.loop-kid.invariant c.kid_sizes.ensures)

pub kids_sizes-returns : goal.kids_sizes-returns
kids_sizes-returns t c = sizes_all InChild c.args.kids.now c.loop-kid.kid-index c.loop-kid.sizes c.loop-kid-test.false c.loop-kid.invariant

pub modes_sizes-loop-mode-preserved : goal.modes_sizes-loop-mode-preserved
modes_sizes-loop-mode-preserved t c =
    subst (AreSizes _) (sym c.with-sizes.ensures)
    (sizes_more InMode c.args.modes.now c.loop-mode.mode-index c.mode-item.result c.loop-mode.sizes c.mode_sizes.result c.loop-mode-test.true c.mode-item.is c.loop-mode.invariant c.mode_sizes.ensures)

pub modes_sizes-returns : goal.modes_sizes-returns
modes_sizes-returns t c = sizes_all InMode c.args.modes.now c.loop-mode.mode-index c.loop-mode.sizes c.loop-mode-test.false c.loop-mode.invariant
