use Rattle.std.proofs.Common.{rules, ◌≡◌, ◌+◌, ◌/◌, ◌%◌, ◌∙◌, sym, ap, arith}
use Rattle.std.specs.Prelude.{slice_index}
use Rattle.std.specs.Int.{bit_at}
use Rattle.link_lists.proofs.Words.{cut_has, cut_keeps, none_more, found}
use Rattle.link_lists.proofs.bits.next_from.Goals as goal

pub loop-word-init : goal.loop-word-init
loop-word-init c =
    let words = c.args.words.now in
    let read : c.in_ok-word.field-0.now ≡ slice_index words (c.args.from / 64) = search rules in
    record {
      within = search rules;
      start = omega arith;
      fits = search rules;
      bits = λ i h one. (let has = cut_has c.in_ok-word.field-0.now (c.args.from % 64) i (omega arith) h one in
          (omega (arith, has.0), ap (λ w. bit_at w i) (sym read) ∙ has.1));
      all = λ i h behind one. cut_keeps c.in_ok-word.field-0.now (c.args.from % 64) i (omega arith) h (omega arith) (ap (λ w. bit_at w i) read ∙ one);
      none = λ k behind less. absurd (omega arith);
    }

pub loop-word-preserved : goal.loop-word-preserved
loop-word-preserved c =
    let words = c.args.words.now in
    let l = c.loop-word.invariant in
    let read : c.in_ok-word-2.field-0.now ≡ slice_index words (c.loop-word.at + 1) = search rules in
    record {
      within = search rules;
      start = omega (arith, l.start);
      fits = search rules;
      bits = λ i h one. (omega (arith, l.start), ap (λ w. bit_at w i) (sym read) ∙ one);
      all = λ i h behind one. ap (λ w. bit_at w i) read ∙ one;
      none = none_more words c.args.from c.loop-word.at c.loop-word.word c.loop-word-test.true l.all l.none;
    }

pub returns : goal.returns
returns c =
    let l = c.loop-word.invariant in
    found c.args.words.now c.args.from c.loop-word.at c.loop-word.word (omega arith) l.fits l.bits l.all l.none
