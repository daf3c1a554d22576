use Rattle.std.proofs.Common.{◌∙◌, [], sym}
use Rattle.arch_rules.specs.Rules.{role_at}
use Rattle.arch_rules.specs.Within.{place_in}
use Rattle.arch_rules.proofs.Siblings.{knows_none}
use Rattle.arch_rules.proofs.Lists.{no_list, knows_models, knows_tiles, knows_blocks, knows_others, on_ok, judges_alone}
use Rattle.arch_rules.proofs.walk.check_list.Goals as goal

pub returns-in-Models-clause-knows : goal.returns-in-Models-clause-knows
returns-in-Models-clause-knows c =
    on_ok c.check_inside.result _ _ c.check_inside.ensures.knows
    (knows_models (place_in c.args.at) c.requires.root c.args.list.now c.args.lists.now c.check_inside.new.taken (place_in c.inside-inner.result) c.inside-inner.ensures
    (sym c.requires.role ∙ c.in-Models.is))

pub returns-in-Tiles-clause-knows : goal.returns-in-Tiles-clause-knows
returns-in-Tiles-clause-knows c =
    on_ok c.check_inside-in-Tiles.result _ _ c.check_inside-in-Tiles.ensures.knows
    (knows_tiles (place_in c.args.at) c.requires.root c.args.list.now c.args.lists.now c.check_inside-in-Tiles.new.taken (place_in c.inside-inner.result) c.inside-inner.ensures
    (sym c.requires.role ∙ c.in-Tiles.is))

pub returns-in-Blocks-clause-knows : goal.returns-in-Blocks-clause-knows
returns-in-Blocks-clause-knows c =
    on_ok c.check_inside-in-Blocks.result _ _ c.check_inside-in-Blocks.ensures.knows
    (knows_blocks (place_in c.args.at) c.requires.root c.args.list.now c.args.lists.now c.check_inside-in-Blocks.new.taken (place_in c.inside-inner.result) c.inside-inner.ensures
    (sym c.requires.role ∙ c.in-Blocks.is))

pub returns-in_default : goal.returns-in_default
returns-in_default c =
    let at = place_in c.args.at in
    let role = c.requires.role in
    record {
      told = λ before knows. judges_alone c.check_inside-in_default.result at (place_in c.inside-inner.result) c.args.list.now before c.inside-inner.ensures
          (no_list (role_at at c.args.list.now) before (λ is. c.in_default.not-Models (role ∙ is)) (λ is. c.in_default.not-Tiles (role ∙ is)) (λ is. c.in_default.not-Blocks (role ∙ is)))
          (c.check_inside-in_default.ensures.told [] (knows_none (place_in c.inside-inner.result) c.new-names.result c.new-names.ensures));
      knows = on_ok c.check_inside-in_default.result _ _ c.check_inside-in_default.ensures.knows
          (λ next before knows. knows_others at c.requires.root c.args.list.now c.args.lists.now
          (λ is. c.in_default.not-Models (role ∙ is)) (λ is. c.in_default.not-Tiles (role ∙ is)) (λ is. c.in_default.not-Blocks (role ∙ is)) before knows);
    }
