use Rattle.std.proofs.Common.{◌≤◌, [], length, take, sym, subst, arith}
use Rattle.arch_rules.specs.Elements.{kids_of}
use Rattle.arch_rules.specs.Taken.{KnowsLists, list_of}
use Rattle.arch_rules.specs.Walks.{AreFine, none}
use Rattle.arch_rules.specs.Within.{place_in}
use Rattle.arch_rules.specs.declared.role.Role.TheVariants.{Models, Tiles, Blocks}
use Rattle.arch_rules.proofs.Siblings.{knows_none}
use Rattle.arch_rules.proofs.Passed.{handed_on, front, fine_more, met_more, one_here, one_deeper, breaks_of, take_whole}
use Rattle.arch_rules.proofs.walk.check_lists.Goals as goal

pub loop-list-init : goal.loop-list-init
loop-list-init c =
    let at = place_in c.args.at in
    record {
      fine = none at [];
      met = knows_none at c.new-names.result c.new-names.ensures;
      lists = record {
        models = knows_none (list_of at Models) c.new.result c.new.ensures;
        tiles = knows_none (list_of at Tiles) c.new-2.result c.new-2.ensures;
        blocks = knows_none (list_of at Blocks) c.new-3.result c.new-3.ensures;
      };
    }

pub returns-in_err-check_one : goal.returns-in_err-check_one
returns-in_err-check_one c =
    let at = place_in c.args.at in
    let kids = c.as_slice-list-items.result.now in
    let error = c.in_err-check_one.field-0.0 in
    handed_on _ c.from_residual.result error at [] (kids_of c.args.root.now) c.from_residual.ensures.1
    (breaks_of at kids (kids_of c.args.root.now) c.as_slice-list-items.ensures error []
    (one_here at [] c.loop-list.names kids c.loop-list.list-index c.list-item.result c.loop-list-test.true c.list-item.is c.loop-list.invariant.fine c.loop-list.invariant.met
    error c.in_err-check_one.ensures.told))

pub returns-in_err-check_list : goal.returns-in_err-check_list
returns-in_err-check_list c =
    let at = place_in c.args.at in
    let kids = c.as_slice-list-items.result.now in
    let error = c.in_err-check_list.field-0.0 in
    handed_on _ c.from_residual-in_err-check_list.result error at [] (kids_of c.args.root.now) c.from_residual-in_err-check_list.ensures.1
    (breaks_of at kids (kids_of c.args.root.now) c.as_slice-list-items.ensures error []
    (one_deeper at [] c.loop-list.names kids c.loop-list.list-index c.list-item.result c.loop-list-test.true c.list-item.is c.loop-list.invariant.fine c.loop-list.invariant.met
    error c.in_ok-check_one.ensures.told (c.in_err-check_list.ensures.told (take c.loop-list.list-index kids) c.loop-list.invariant.lists)))

pub loop-list-preserved : goal.loop-list-preserved
loop-list-preserved c =
    let at = place_in c.args.at in
    let kids = c.as_slice-list-items.result.now in
    let i = c.loop-list.list-index in
    let kid = c.list-item.result in
    let names = c.loop-list.names in
    record {
      fine = fine_more at [] names kids i kid c.loop-list-test.true c.list-item.is c.loop-list.invariant.fine c.loop-list.invariant.met c.in_ok-check_one.ensures.told
          (c.in_ok-check_list.ensures.told (take i kids) c.loop-list.invariant.lists);
      met = met_more at [] names kids i kid c.loop-list-test.true c.list-item.is c.loop-list.invariant.fine c.loop-list.invariant.met c.check_one.new.taken
          c.in_ok-check_one.ensures.knows;
      lists = subst (λ l. KnowsLists at c.check_list.new.lists l)
          (sym (front at [] names kids i kid c.loop-list-test.true c.list-item.is c.loop-list.invariant.fine c.loop-list.invariant.met))
          (c.in_ok-check_list.ensures.knows (take i kids) c.loop-list.invariant.lists);
    }

pub returns : goal.returns
returns c =
    let whole : length c.as_slice-list-items.result.now ≤ c.loop-list.list-index = omega arith in
    subst (λ l. AreFine (place_in c.args.at) [] l) c.as_slice-list-items.ensures
    (subst (λ l. AreFine (place_in c.args.at) [] l) (take_whole c.as_slice-list-items.result.now c.loop-list.list-index whole) c.loop-list.invariant.fine)
