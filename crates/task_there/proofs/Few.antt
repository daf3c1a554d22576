-- A task has no more nets than its netlist.
use Rattle.std.proofs.Common.{◌≡◌, ◌<◌, ◌≤◌, ◌⊎◌, inl, inr, ℕ, List, [], ◌∷◌, length, ap, ◌∙◌, subst, arith}
use Rattle.std.specs.List.{All}
use Rattle.std.proofs.lemmas.List.{length-map}
use Rattle.std.proofs.lemmas.List.FromFn.{length-range_with_len}
use Rattle.vtr_base.specs.Lists.{Has, up_from}
use Rattle.list_laws.specs.Orders.{Once, Ordered}
use Rattle.list_laws.proofs.Counting.{no_longer}
use Rattle.list_laws.proofs.Members.{has_at, has_up, has_either, each_has}
use Rattle.list_laws.proofs.Places.{up_is}
use Rattle.net_types.specs.declared.atom.Atom.{Atom}
use Rattle.net_types.specs.declared.atom.Conn.{Conn}
use Rattle.net_types.specs.WellFormed.{HaveNets}
use Rattle.task_types.specs.declared.task.TaskNet.{TaskNet}
use Rattle.task_rules.specs.Joined.{IsJoined, AreNetsOf, numbers_of}

ordered_once : (xs : List ℕ) → Ordered ◌<◌ xs → Once xs
ordered_once [] order = tt
ordered_once (x ∷ xs) order = (λ h. let low : x < x = order.0 x h in omega (arith, low), ordered_once xs order.1)

-- the net of a connection is one of the netlist
joined_below : (nets : ℕ) (known : List Atom) (atoms : List ℕ) (net : ℕ) → HaveNets nets known → IsJoined known atoms net → net < nets
joined_below nets known atoms net have is = subst (λ k. k < nets) is.of_net (by_side (has_either is.atom.ins is.atom.outs is.conn is.of_atom))
  where
    both : All (λ (c : Conn). c.net < nets) is.atom.ins × All (λ (c : Conn). c.net < nets) is.atom.outs
    both =
        each_has (λ (a : Atom). All (λ (c : Conn). c.net < nets) a.ins × All (λ (c : Conn). c.net < nets) a.outs) known have is.atom
        (has_at known is.listed.number is.atom is.listed.is)

    by_side : Has is.atom.ins is.conn ⊎ Has is.atom.outs is.conn → is.conn.net < nets
    by_side (inl h) = each_has (λ (c : Conn). c.net < nets) is.atom.ins both.0 is.conn h
    by_side (inr h) = each_has (λ (c : Conn). c.net < nets) is.atom.outs both.1 is.conn h

pub few_nets : (nets : ℕ) (known : List Atom) (atoms : List ℕ) (of : List TaskNet) → HaveNets nets known → AreNetsOf known atoms of → length of ≤ nets
few_nets nets known atoms of have are =
    let low = no_longer (numbers_of of) (up_from 0 nets) (ordered_once (numbers_of of) are.ascend)
    (λ net h. has_up 0 nets net (omega arith) (let below = joined_below nets known atoms net have ((are.joined net).0 h) in omega (arith, below))) in
    let long : length (up_from 0 nets) ≡ nets = ap length (up_is 0 nets) ∙ length-range_with_len 0 nets in
    omega (arith, low, long, length-map of (λ (t : TaskNet). t.net))
