use Rattle.std.proofs.Common.{[]}
use Rattle.tree_lines.specs.Words.{texts, IsNeed}
use Rattle.tree_lines.proofs.EachWord.{word_at, word_more, word_lost}
use Rattle.tree_lines.proofs.lists.needs.Goals as goal

pub returns-in_default : goal.returns-in_default
returns-in_default c =
    word_lost (IsNeed c.args.task.now) (texts c.args.words.now) c.loop-word.word-index _
    (word_at c.args.words.now c.loop-word.word-index (record { ref_ptr = (0, 0); now = [] }) c.loop-word-test.true) c.in_default.ensures

pub loop-word-preserved : goal.loop-word-preserved
loop-word-preserved c =
    word_more (IsNeed c.args.task.now) (texts c.args.words.now) c.loop-word.word-index _ c.loop-word.found.items c.push.new.self.items c.in-Some.number c.loop-word.invariant
    (word_at c.args.words.now c.loop-word.word-index (record { ref_ptr = (0, 0); now = [] }) c.loop-word-test.true) c.in-Some.ensures
    c.in_ok-push.ensures.items
