use Rattle.blif_elems.specs.Seen.{texts}
use Rattle.blif_phases.proofs.OneStep.{lone_is, not_lone, untrue}
use Rattle.blif_phases.proofs.over.is_lone.Goals as goal

pub returns-then-not-is_utf8 : goal.returns-then-not-is_utf8
returns-then-not-is_utf8 c = λ l holds. (λ on. absurd (cc), λ lone. absurd (not_lone l c.args.is_utf8 (texts c.args.words.now) c.args.word.now c.if-not-is_utf8.true holds lone))

pub returns : goal.returns
returns c = λ l holds. lone_is c.one_reading.ensures.words l c.args.is_utf8 c.is_only.result (texts c.args.words.now) c.args.word.now c.if-not-is_utf8.false c.is_only.ensures holds
