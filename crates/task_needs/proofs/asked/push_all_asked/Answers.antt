use Rattle.std.proofs.Common.{List, sym, subst}
use Rattle.task_types.specs.declared.task.Need.{Need}
use Rattle.task_rules.specs.Needs.{AreAsked}
use Rattle.task_needs.specs.Plain.{Before}
use Rattle.task_needs.proofs.Asking.{none_asked, asked_all, next_low, listed_at, short_ins, joins_all}
use Rattle.task_needs.proofs.asked.push_all_asked.Goals as goal

pub bounds-atoms-number : goal.bounds-atoms-number
bounds-atoms-number c = next_low c.args.net.now.atoms c.atoms.result.now c.args.atoms.now c.loop-place.place 0 c.atoms.ensures c.requires.there c.loop-place-test.true

pub push_asked-requires-clause-few : goal.push_asked-requires-clause-few
push_asked-requires-clause-few c =
    let listed = listed_at c.args.net.now.atoms c.atoms.result.now c.args.atoms.now c.loop-place.place 0 c.index-atoms-number.result c.atoms.ensures c.requires.there c.loop-place-test.true c.index-atoms-number.is in
    short_ins c.args.net.now listed.number c.index-atoms-number.result c.law.ensures listed.is

pub push_asked-requires-clause-joined : goal.push_asked-requires-clause-joined
push_asked-requires-clause-joined c =
    joins_all c.args.net.now.atoms c.args.atoms.now c.args.nets.now c.loop-place.place c.index-atoms-number.result
    (listed_at c.args.net.now.atoms c.atoms.result.now c.args.atoms.now c.loop-place.place 0 c.index-atoms-number.result c.atoms.ensures c.requires.there c.loop-place-test.true c.index-atoms-number.is)
    c.requires.joined

pub loop-place-init : goal.loop-place-init
loop-place-init c =
    subst (λ (l : List Need). AreAsked c.args.net.now.atoms c.args.atoms.now c.args.nets.now (Before 0 0) l) (sym c.requires.none) (none_asked c.args.net.now.atoms c.args.atoms.now c.args.nets.now)

pub loop-place-preserved : goal.loop-place-preserved
loop-place-preserved c =
    c.in_ok-push_asked.ensures c.args.net.now.atoms c.args.atoms.now
    (listed_at c.args.net.now.atoms c.atoms.result.now c.args.atoms.now c.loop-place.place 0 c.index-atoms-number.result c.atoms.ensures c.requires.there c.loop-place-test.true c.index-atoms-number.is)
    c.loop-place.invariant

pub returns : goal.returns
returns c = asked_all c.args.net.now.atoms c.args.atoms.now c.args.nets.now c.loop-place.place c.loop-place.needs.items c.loop-place.invariant c.loop-place-test.false
