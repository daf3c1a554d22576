use Rattle.std.proofs.Common.{◌≡◌, ◌<◌, length, ap, subst, arith}
use Rattle.std.proofs.lemmas.Bool.Decides.{nat_tests}
use Rattle.list_laws.proofs.Onces.{once_of}
use Rattle.sparse_set.specs.Sets.{Held}
use Rattle.task_types.specs.Open.{IsOpenTo}
use Rattle.task_reach.specs.Gains.{Gains, FromFirst, FromItem}
use Rattle.node_homeless.proofs.Listed.{homeless_to, homeless_from}
use Rattle.node_homeless.proofs.homeless.is_homeless.Goals as goal

pub returns-then-not-different-clause-homeless : goal.returns-then-not-different-clause-homeless
returns-then-not-different-clause-homeless c = (
  λ no. let bad : ⊥ = cc no in absurd bad,
  λ homeless. c.if-not-different.ensures.exact.1 (homeless.atoms_of, once_of c.args.atoms.now homeless.once),
)

pub returns-clause-homeless : goal.returns-clause-homeless
returns-clause-homeless c =
    let gains = subst (λ (h : Held). Gains h.items c.put_all_leaves.new.leaves.items (FromFirst (FromItem c.args.atoms.now (IsOpenTo c.args.graph.now c.args.task.now c.args.trail.now.made)) (length c.args.atoms.now))) c.requires.leaves
    c.put_all_leaves.ensures.gains in
    let same : length c.as_slice.result.now ≡ length c.put_all_leaves.new.leaves.items = ap length c.as_slice.ensures in
    let all = c.are_listed-different.ensures.exact.0 c.if-not-different.false in (
      λ yes.
          let less : length c.as_slice.result.now < length c.args.atoms.now = grind (arith, nat_tests) in
          homeless_to c.args.graph.now c.args.task.now c.args.trail.now.made c.args.atoms.now c.put_all_leaves.new.leaves.items gains all.0 all.1 (omega (arith, less, same)),
      λ homeless.
          let less = homeless_from c.args.graph.now c.args.task.now c.args.trail.now.made c.args.atoms.now c.put_all_leaves.new.leaves.items gains c.law.ensures.once homeless in
          let now : length c.as_slice.result.now < length c.args.atoms.now = omega (arith, less, same) in
          grind (arith, nat_tests),
    )
