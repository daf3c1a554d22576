use Rattle.std.proofs.Common.{length, get_or, arith}
use Rattle.std.proofs.lemmas.Option.{slice_get-get_or}
use Rattle.list_laws.proofs.Members.{has_at}
use Rattle.node_homeless.proofs.Listed.{stands_twice}
use Rattle.node_homeless.proofs.homeless.are_listed.Goals as goal

pub returns-then-atom-len-clause-exact : goal.returns-then-atom-len-clause-exact
returns-then-atom-len-clause-exact c = (
  λ no. let bad : ⊥ = cc no in absurd bad,
  λ all.
      let less = all.0 (get_or c.args.atoms.now c.loop-atom.atom-index 0) (has_at c.args.atoms.now c.loop-atom.atom-index _ (slice_get-get_or c.args.atoms.now c.loop-atom.atom-index 0 c.loop-atom-test.true)) in
      let over = c.if-atom-len.true in
      absurd (omega (arith, less, over, c.len.ensures)),
)

pub returns-then-not-insert-clause-exact : goal.returns-then-not-insert-clause-exact
returns-then-not-insert-clause-exact c = (
  λ no. let bad : ⊥ = cc no in absurd bad,
  λ all. absurd (stands_twice c.args.atoms.now c.loop-atom.atom-index (length c.args.task.now.atoms) (get_or c.args.atoms.now c.loop-atom.atom-index 0) c.loop-atom.listed c.loop-atom.invariant
      (slice_get-get_or c.args.atoms.now c.loop-atom.atom-index 0 c.loop-atom-test.true) c.if-not-insert.ensures.there all.1),
)
