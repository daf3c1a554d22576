use Rattle.std.proofs.Common.{map}
use Rattle.lut_widths.proofs.Deciding.{untrue}
use Rattle.lut_widths.proofs.Opening.{adds_none, adds_kids, held_by}
use Rattle.lut_widths.proofs.kids.push_open.Goals as goal

pub returns-then-holds_luts : goal.returns-then-holds_luts
returns-then-holds_luts c =
    adds_none (map (λ k. k.now) c.args.kids.now.items) c.args.mode.now ((held_by c.args.mode.now c.as_slice.result.now c.holds_luts.result c.as_slice.ensures c.holds_luts.ensures).0 c.if-holds_luts.true)

pub returns : goal.returns
returns c =
    adds_kids (map (λ k. k.now) c.args.kids.now.items) (map (λ k. k.now) c.push_kids.new.kids.items) c.args.mode.now
    (λ holds. untrue c.holds_luts.result c.if-holds_luts.false ((held_by c.args.mode.now c.as_slice.result.now c.holds_luts.result c.as_slice.ensures c.holds_luts.ensures).1 holds)) c.in_ok-push_kids.ensures
