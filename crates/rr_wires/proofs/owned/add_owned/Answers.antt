use Rattle.std.proofs.Common.{inl, inr, refl}
use Rattle.rr_wires.specs.Steps.{pair_of}
use Rattle.rr_wires.proofs.OwnedPairs.{pair_had, pair_fresh}
use Rattle.rr_wires.proofs.owned.add_owned.Goals as goal

pub returns-then-not-branch : goal.returns-then-not-branch
returns-then-not-branch c =
    let had = pair_had c.args.pairs.now.keys c.insert.new.self.keys (pair_of c.args.edge.redge) c.in_ok-insert.field-0 c.in_ok-insert.ensures.added c.in_ok-insert.ensures.keys c.if-not-branch.true in
    inl (had.0, had.1, refl)

pub returns : goal.returns
returns c =
    let fresh = pair_fresh c.args.pairs.now.keys c.insert.new.self.keys (pair_of c.args.edge.redge) c.in_ok-insert.field-0 c.in_ok-insert.ensures.added c.in_ok-insert.ensures.keys c.if-not-branch.false in
    inr (fresh.0, fresh.1, c.in_ok-push.ensures.items)
