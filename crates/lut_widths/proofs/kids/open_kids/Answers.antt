use Rattle.std.proofs.Common.{map}
use Rattle.lut_widths.proofs.Opening.{open_kids_more, open_kids_all}
use Rattle.lut_widths.proofs.kids.open_kids.Goals as goal

pub loop-mode-preserved : goal.loop-mode-preserved
loop-mode-preserved c =
    open_kids_more c.args.modes.now c.loop-mode.mode-index c.mode-item.result (map (λ k. k.now) c.loop-mode.kids.items) (map (λ k. k.now) c.push_open.new.kids.items) c.loop-mode-test.true c.mode-item.is
    c.in_ok-push_open.ensures c.loop-mode.invariant

pub returns : goal.returns
returns c = open_kids_all c.args.modes.now c.loop-mode.mode-index (map (λ k. k.now) c.loop-mode.kids.items) c.loop-mode-test.false c.loop-mode.invariant
