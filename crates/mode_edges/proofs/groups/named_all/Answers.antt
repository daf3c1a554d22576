use Rattle.mode_edges.proofs.GroupsOf.{word_unnamed, named_step, all_named}
use Rattle.mode_edges.proofs.groups.named_all.Goals as goal

pub returns-in_default : goal.returns-in_default
returns-in_default c =
    word_unnamed c.args.names.now.block c.args.names.now.mode c.args.role c.args.words.now c.loop-text.text-index _ c.loop-text-test.true c.in_default.ensures

pub loop-text-preserved : goal.loop-text-preserved
loop-text-preserved c =
    named_step c.args.names.now.block c.args.names.now.mode c.args.role c.args.words.now c.loop-text.text-index _ c.loop-text.found.items c.push.new.self.items
    c.in-Some.group c.loop-text-test.true c.in_ok-push.ensures.items c.loop-text.invariant c.in-Some.ensures

pub returns : goal.returns
returns c =
    all_named c.args.names.now.block c.args.names.now.mode c.args.role c.args.words.now c.loop-text.text-index c.loop-text.found.items
    c.loop-text-test.false c.loop-text.invariant
