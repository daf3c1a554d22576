use Rattle.std.proofs.Common.{List, [], length, sym, subst}
use Rattle.pb_expand.specs.declared.number.PbIx.{PbIx}
use Rattle.task_homes.specs.Homes.{AreHomes}
use Rattle.task_homes.proofs.Listing.{no_homes, homes_more, next_low}
use Rattle.task_homes.proofs.homes.homes_of.Goals as goal

pub leaves_for-requires : goal.leaves_for-requires
leaves_for-requires c = next_low c.args.atoms.now (length c.args.net.now.atoms) c.loop-number.number-index 0 c.requires.there c.loop-number-test.true

pub loop-number-init : goal.loop-number-init
loop-number-init c = subst (λ (l : List (List PbIx)). AreHomes c.args.graph.now c.args.net.now.atoms [] l) (sym c.in_ok-homes.ensures.items) (no_homes c.args.graph.now c.args.net.now.atoms)

pub loop-number-preserved : goal.loop-number-preserved
loop-number-preserved c =
    homes_more c.args.graph.now c.args.net.now.atoms c.args.atoms.now c.loop-number.homes.items c.push.new.self.items c.loop-number.number-index 0 c.in_ok-leaves_for.field-0 c.loop-number-test.true
    c.in_ok-leaves_for.ensures c.loop-number.invariant c.in_ok-push.ensures.items
