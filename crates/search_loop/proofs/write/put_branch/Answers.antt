use Rattle.std.proofs.Common.{rules, arith, ◌≡◌, ◌<◌, ◌^◌, ◌∙◌}
use Rattle.search_loop.proofs.Paths.{var_inside, some_options}
use Rattle.search_loop.proofs.write.put_branch.Goals as goal

pub option_count-requires-clause-inside : goal.option_count-requires-clause-inside
option_count-requires-clause-inside c = var_inside c.args.graph.now c.args.task.now c.args.trail.now.made c.args.var c.law.ensures c.requires.live

pub go_on-requires-clause-entered : goal.go_on-requires-clause-entered
go_on-requires-clause-entered c =
    let kids : c.in-Ok.kids ≡ c.option_count.result = search rules in
    let each = kids ∙ c.option_count.ensures in
    let some = some_options c.args.graph.now c.args.task.now c.args.trail.now.made c.args.var c.requires.modes c.requires.live in
    (record { live = c.requires.live; undecided = c.requires.undecided; each = each }, omega (arith, some, each))

pub returns-clause-branched : goal.returns-clause-branched
returns-clause-branched c =
    let kids : c.in-Ok.kids ≡ c.option_count.result = search rules in
    let each = kids ∙ c.option_count.ensures in
    let some = some_options c.args.graph.now c.args.task.now c.args.trail.now.made c.args.var c.requires.modes c.requires.live in
    let few : c.in-Ok.kids < 2 ^ 32 = omega arith in
    record { kids = c.in-Ok.kids; each = each; some = omega (arith, some, each); few = few; is = c.in_ok-push.ensures.ok; stands = c.go_on.ensures.stands }
