use Rattle.blif_elems.specs.Seen.{texts}
use Rattle.blif_nets.proofs.Counting.{numbers_all, numbers_more, numbers_end, numbers_within}
use Rattle.blif_nets.proofs.mentions.number_all.Goals as goal

pub loop-word-init : goal.loop-word-init
loop-word-init c = numbers_all c.args.nets.now c.args.words.now _ c.new-numbers.ensures.items

pub loop-word-preserved : goal.loop-word-preserved
loop-word-preserved c =
    numbers_more c.args.nets.now c.args.words.now c.loop-word.nets c.number_one.new.nets c.loop-word.word-index _ c.loop-word.numbers.items _ c.in_ok-number_one.field-0 c.loop-word-test.true
    c.in_ok-number_one.ensures c.in_ok-push.ensures.items c.loop-word.invariant

pub returns : goal.returns
returns c =
    let numbered = numbers_end c.args.nets.now c.args.words.now c.loop-word.nets c.loop-word.word-index c.loop-word.numbers.items c.loop-word-test.false c.loop-word.invariant in
    record { numbers = numbered; within = λ n has. numbers_within c.args.nets.now (texts c.args.words.now) c.loop-word.nets c.loop-word.numbers.items n numbered has }
