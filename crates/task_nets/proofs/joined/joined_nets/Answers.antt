use Rattle.std.proofs.Common.{◌<◌, ◌-◌, ◌^◌, ℕ, List, subst, sym}
use Rattle.std.specs.List.{All}
use Rattle.vtr_base.specs.Lists.{Has}
use Rattle.task_nets.proofs.Joins.{joined_fits, joined_low}
use Rattle.task_nets.proofs.joined.joined_nets.Goals as goal

pub ascending-requires : goal.ascending-requires
ascending-requires c = record {
  low =
      subst (λ (l : List ℕ). All (λ k. k < 2 ^ 32 - 1) l) (sym c.as_slice-2.ensures.value)
      (joined_fits c.args.net.now c.as_slice.result.now c.in_ok-nets.nets.items c.law.ensures c.in_ok-nets.ensures);
}

pub returns-clause-low : goal.returns-clause-low
returns-clause-low c k has =
    joined_low c.args.net.now c.as_slice.result.now k c.law.ensures ((c.in_ok-nets.ensures k).0 (subst (λ (l : List ℕ). Has l k) c.as_slice-2.ensures.value (c.in_ok-ascending.ensures.same.forth k has)))
