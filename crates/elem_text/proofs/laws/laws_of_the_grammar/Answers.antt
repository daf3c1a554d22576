use Rattle.elem_text.specs.Grammar.{body, body_place}
use Rattle.elem_text.proofs.OneAnswer.{one_element, one_place, breaks_or_spelled, breaks_or_deep}
use Rattle.elem_text.proofs.laws.laws_of_the_grammar.Goals as goal

pub returns : goal.returns
returns c = record {
  one_element = one_element;
  one_place = λ bytes p q. one_place (body_place bytes) (body bytes) p q;
  spelled = breaks_or_spelled;
  deep = λ bytes place. breaks_or_deep (body_place bytes) (body bytes) place;
}
