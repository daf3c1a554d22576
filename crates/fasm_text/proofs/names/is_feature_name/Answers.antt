use Rattle.fasm_text.proofs.Cuts.{untrue}
use Rattle.fasm_text.proofs.Naming.{first_part, names_go_on, last_part, only_part}
use Rattle.fasm_text.proofs.names.is_feature_name.Goals as goal

pub returns-then-not-is_name_part : goal.returns-then-not-is_name_part
returns-then-not-is_name_part c = (
  λ fails. cc,
  λ name.
      absurd (untrue _ c.if-not-is_name_part.true
      (c.is_name_part.ensures.1 (first_part c.loop-part.rest.now c.in-Some.part.now c.in-Some.behind.now c.in-Some.ensures (c.loop-part.invariant.back name)))),
)

pub loop-part-preserved : goal.loop-part-preserved
loop-part-preserved c =
    names_go_on c.args.text.now c.loop-part.rest.now c.in-Some.part.now c.in-Some.behind.now c.in-Some.ensures (c.is_name_part.ensures.0 c.if-not-is_name_part.false) c.loop-part.invariant

pub returns : goal.returns
returns c = (
  λ yes. c.loop-part.invariant.on (last_part c.loop-part.rest.now c.in_default.ensures (c.is_name_part-2.ensures.0 yes)),
  λ name.
      c.is_name_part-2.ensures.1 (only_part c.loop-part.rest.now c.in_default.ensures (c.loop-part.invariant.back name)),
)
