use Rattle.std.proofs.Common.{length, subst}
use Rattle.least_cycle.specs.declared.answer.Cycles.{Cycles}
use Rattle.least_cycle.specs.Answer.{IsAnswer}
use Rattle.net_faults.proofs.Looping.{ends_low, ranked, cycle_low}
use Rattle.net_faults.proofs.loops.least_loop.Goals as goal

pub least_cycle-requires-clause-edges : goal.least_cycle-requires-clause-edges
least_cycle-requires-clause-edges c = rw c.as_slice.ensures.value (ends_low c.args.atoms.now c.in_ok-edges.edges.items c.in_ok-edges.ensures.feeds)

pub returns-in-Ranked : goal.returns-in-Ranked
returns-in-Ranked c =
    let answer = rw c.as_slice.ensures.value at c.in_ok-least_cycle.ensures in
    let ranking = subst (λ (a : Cycles). IsAnswer (length c.args.atoms.now) c.in_ok-edges.edges.items a) c.in-Ranked.is answer in
    ranked c.args.atoms.now c.in_ok-edges.edges.items c.in_ok-edges.ensures.feeds c.in-Ranked.field-0 ranking

pub atom_names-requires : goal.atom_names-requires
atom_names-requires c =
    let answer = rw c.as_slice.ensures.value at c.in_ok-least_cycle.ensures in
    let least = subst (λ (a : Cycles). IsAnswer (length c.args.atoms.now) c.in_ok-edges.edges.items a) c.in-Cycle.is answer in
    rw c.as_slice-in-Cycle.ensures (cycle_low c.args.atoms.now c.in_ok-edges.edges.items c.in_ok-edges.ensures.feeds c.in-Cycle.cycle least.is_cycle)
