use Rattle.std.proofs.Common.{refl, Bor, ℕ, List}
use Rattle.blif_elems.specs.Seen.{texts}
use Rattle.blif_nets.proofs.Growing.{grows_all, reads_more, reads_known, reads_end}
use Rattle.blif_nets.proofs.mentions.take_words.Goals as goal

pub loop-word-init : goal.loop-word-init
loop-word-init c = grows_all c.args.names.now (texts c.args.words.now)

pub returns-then-not-branch : goal.returns-then-not-branch
returns-then-not-branch c =
    reads_known (λ (w : Bor (List ℕ)). w.now) c.args.names.now (texts c.args.words.now) c.args.words.now c.loop-word.names c.take_name.new.names c.loop-word.word-index _ _ c.in_ok-take_name.field-0 c.loop-word-test.true refl
    c.if-not-branch.true c.in_ok-take_name.ensures c.loop-word.invariant

pub loop-word-preserved : goal.loop-word-preserved
loop-word-preserved c =
    reads_more (λ (w : Bor (List ℕ)). w.now) c.args.names.now (texts c.args.words.now) c.args.words.now c.loop-word.names c.take_name.new.names c.loop-word.word-index _ _ c.in_ok-take_name.field-0 c.loop-word-test.true refl
    c.if-not-branch.false c.in_ok-take_name.ensures c.loop-word.invariant

pub returns : goal.returns
returns c = reads_end (λ (w : Bor (List ℕ)). w.now) c.args.names.now (texts c.args.words.now) c.args.words.now c.loop-word.names c.loop-word.word-index c.loop-word-test.false c.loop-word.invariant
