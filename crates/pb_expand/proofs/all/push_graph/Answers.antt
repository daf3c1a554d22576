use Rattle.std.proofs.Common.{subst}
use Rattle.arch_types.specs.declared.block.PbType.{PbType}
use Rattle.pb_expand.specs.Types.{modes_in_tree}
use Rattle.pb_expand.specs.Refusals.{AreSound, IsTooLarge}
use Rattle.pb_expand.proofs.all.push_graph.Goals as goal

pub returns-clause-added : goal.returns-clause-added
returns-clause-added c =
    let made = c.in_ok-graph.ensures in
    record {
      graph = c.in_ok-graph.graph;
      is = c.in_ok-push.ensures.items;
      number = made.block;
      is_root = made.root;
      expansion = c.law.ensures;
      sound = subst (λ (b : PbType). AreSound (modes_in_tree b)) made.root c.keeps.ensures.sound;
      fits = subst (λ (b : PbType). IsTooLarge b → ⊥) made.root c.keeps.ensures.fits;
    }
