use Rattle.std.proofs.Common.{[]}
use Rattle.tree_lines.specs.Words.{texts, IsPin}
use Rattle.tree_lines.proofs.EachWord.{word_at, word_more, word_lost}
use Rattle.tree_lines.proofs.lists.pins_named.Goals as goal

pub returns-in_default : goal.returns-in_default
returns-in_default c =
    word_lost (IsPin c.args.graph.now) (texts c.args.words.now) c.loop-word.word-index _
    (word_at c.args.words.now c.loop-word.word-index (record { ref_ptr = (0, 0); now = [] }) c.loop-word-test.true) (λ x says. c.in_default.ensures x.0 says.is)

pub loop-word-preserved : goal.loop-word-preserved
loop-word-preserved c =
    word_more (IsPin c.args.graph.now) (texts c.args.words.now) c.loop-word.word-index _ c.loop-word.found.items c.push.new.self.items c.in-Some.pin c.loop-word.invariant
    (word_at c.args.words.now c.loop-word.word-index (record { ref_ptr = (0, 0); now = [] }) c.loop-word-test.true) (record { is = c.in-Some.ensures })
    c.in_ok-push.ensures.items
