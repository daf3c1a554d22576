use Rattle.std.proofs.Common.{◌≡◌, ◌+◌, ◌*◌, ◌<◌, min, get_or, subst, arith}
use Rattle.std.specs.Char.{digit_value}
use Rattle.arch_rules.proofs.Digits.{reads_more}
use Rattle.arch_rules.proofs.number.number_up_to.Goals as goal

pub loop-b-preserved : goal.loop-b-preserved
loop-b-preserved c =
    let digit : c.in-Some.digit ≡ digit_value (get_or c.args.text.now c.loop-b.b-index 0) = c.in-Some.ensures.0 in
    let next : c.with_digit-value.result ≡ min (c.loop-b.value * 10 + digit_value (get_or c.args.text.now c.loop-b.b-index 0)) c.args.most =
    subst (λ d. c.with_digit-value.result ≡ min (c.loop-b.value * 10 + d) c.args.most) digit c.with_digit-value.ensures in
    record {
      reads = reads_more c.args.most c.args.text.now c.loop-b.b-index c.loop-b.value c.with_digit-value.result c.loop-b-test.true c.loop-b.invariant.reads
          (subst (λ d. d < 10) digit c.in-Some.ensures.1) next;
      fits = omega (arith, next);
    }
