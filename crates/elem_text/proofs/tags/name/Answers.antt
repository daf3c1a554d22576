use Rattle.std.proofs.Common.{sym, ◌∙◌}
use Rattle.std.proofs.lemmas.Bool.{false≢true}
use Rattle.elem_text.proofs.Spans.{named_from}
use Rattle.elem_text.proofs.Flawed.{name_ended}
use Rattle.elem_text.proofs.tags.name.Goals as goal

pub returns-then-not-begins_with_letter-clause-flaw : goal.returns-then-not-begins_with_letter-clause-flaw
returns-then-not-begins_with_letter-clause-flaw c =
    name_ended _ (λ l. false≢true (sym c.if-not-begins_with_letter.true ∙ c.begins_with_letter.ensures.1 l)) _ c.ended.ensures

pub returns-clause-whole : goal.returns-clause-whole
returns-clause-whole c = named_from _ _ _ (c.begins_with_letter.ensures.0 c.if-not-begins_with_letter.false) c.word.ensures
