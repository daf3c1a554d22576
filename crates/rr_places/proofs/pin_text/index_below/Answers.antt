use Rattle.std.proofs.Common.{length, ap, arith}
use Rattle.rr_places.proofs.Cutting.{same_cut}
use Rattle.rr_places.proofs.pin_text.index_below.Goals as goal

pub returns-then-left-gt0 : goal.returns-then-left-gt0
returns-then-left-gt0 c = λ n h.
    (let k = same_cut 93 _ _ _ _ _ c.in-Some.ensures h.cut in
    let none = ap length k.1 in omega (arith, none, c.if-left-gt0.true))
