use Rattle.meta_lines.specs.Features.{IsForm}
use Rattle.meta_lines.proofs.Formed.{formed, unformed, form_more}
use Rattle.meta_lines.proofs.forms.word_forms.Goals as goal

pub returns-in_default : goal.returns-in_default
returns-in_default c = unformed c.args.words.now c.loop-word.word-index _ c.loop-word-test.true c.in_default.ensures

pub loop-word-preserved : goal.loop-word-preserved
loop-word-preserved c =
    form_more IsForm c.args.words.now c.loop-word.word-index _ c.loop-word.forms.items _ c.in-Some.form c.loop-word-test.true c.loop-word.invariant
    (formed _ c.in-Some.form c.in-Some.ensures) c.in_ok-push.ensures.items
