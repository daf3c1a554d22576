use Rattle.prog_map.proofs.LeafOutputs.{ends_at_modes}
use Rattle.prog_map.proofs.OneStep.{EndAtModes, one_step, one_last, one_source, last_carries}
use Rattle.prog_map.proofs.laws.step_laws.Goals as goal

pub returns : goal.returns
returns c =
    let ends : EndAtModes c.args.graph.now = ends_at_modes _ c.keeps.ensures.sides in
    record {
      one = one_step _ c.law.ensures c.keeps.ensures.one_owner ends;
      last = one_last _ c.law.ensures c.keeps.ensures.one_owner ends;
      carried = last_carries _;
      source = λ choices p s t a b. one_source _ c.law.ensures c.keeps.ensures.one_owner ends choices a.carried.steps b.carried.steps p s t a.carried.way b.carried.way a.first b.first;
    }
