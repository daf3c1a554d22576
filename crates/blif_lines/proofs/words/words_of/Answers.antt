use Rattle.blif_lines.proofs.Wording.{left_pushed, left_ends}
use Rattle.blif_lines.proofs.words.words_of.Goals as goal

pub loop-word-preserved : goal.loop-word-preserved
loop-word-preserved c = (
  c.in-Some.ensures.utf8,
  left_pushed c.args.text.now c.loop-word.rest.now c.in-Some.behind.now c.loop-word.found.items c.push.new.self.items c.in-Some.word
      c.in_ok-push.ensures.items c.loop-word.invariant.1 c.in-Some.ensures.word,
)

pub returns : goal.returns
returns c = left_ends c.args.text.now c.loop-word.rest.now _ c.loop-word.invariant.1 c.in_default.ensures.word
