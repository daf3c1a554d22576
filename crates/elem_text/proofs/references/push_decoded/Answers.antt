use Rattle.std.proofs.Common.{arith}
use Rattle.elem_text.proofs.Utf8.{until_utf8}
use Rattle.elem_text.proofs.Referred.{decoded_on}
use Rattle.elem_text.proofs.references.push_decoded.Goals as goal

pub text_of-requires : goal.text_of-requires
text_of-requires c = (until_utf8 38 _ _ _ (omega arith) c.until.ensures c.loop-rest.invariant.utf8).0

pub push_referred-requires-clause-utf8 : goal.push_referred-requires-clause-utf8
push_referred-requires-clause-utf8 c = (until_utf8 38 _ _ _ (omega arith) c.until.ensures c.loop-rest.invariant.utf8).1

pub loop-rest-preserved : goal.loop-rest-preserved
loop-rest-preserved c = record {
  utf8 = c.in_ok-rest.ensures.utf8;
  so_far = decoded_on c.loop-rest.out c.push_str.new.self c.push_referred.new.out _ c.text_of.result.now c.loop-rest.rest.now c.until.result.1.now c.in_ok-rest.rest.now _
      c.until.ensures c.text_of.ensures c.in_ok-push_str.ensures.ok c.in_ok-rest.ensures.stands c.loop-rest.invariant.so_far;
}
