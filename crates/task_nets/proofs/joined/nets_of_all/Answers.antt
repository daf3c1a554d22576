use Rattle.std.proofs.Common.{◌++◌, ℕ, List, get_or, ap, ◌∙◌}
use Rattle.net_types.specs.Order.{nets_of}
use Rattle.net_types.specs.declared.atom.Conn.{Conn}
use Rattle.task_nets.proofs.Joins.{joined_more, next_low, atom_there}
use Rattle.task_nets.proofs.joined.nets_of_all.Goals as goal

pub bounds-atoms-number : goal.bounds-atoms-number
bounds-atoms-number c = next_low c.args.net.now.atoms c.atoms.result.now c.args.atoms.now c.loop-number.number-index 0 c.atoms.ensures c.requires.there c.loop-number-test.true

pub loop-number-preserved : goal.loop-number-preserved
loop-number-preserved c =
    joined_more c.args.net.now.atoms c.args.atoms.now c.loop-number.nets.items c.push_nets-in-loop-number.new.nets.items c.loop-number.number-index 0 c.index-atoms-number.result c.loop-number-test.true
    (atom_there c.args.net.now.atoms c.atoms.result.now (get_or c.args.atoms.now c.loop-number.number-index 0) c.index-atoms-number.result c.atoms.ensures (next_low c.args.net.now.atoms c.atoms.result.now c.args.atoms.now c.loop-number.number-index 0 c.atoms.ensures c.requires.there c.loop-number-test.true) c.index-atoms-number.is)
    c.loop-number.invariant
    (c.in_ok-push_nets-2.ensures ∙ ap (λ (l : List ℕ). l ++ nets_of c.as_slice-in-loop-number.result.now) c.in_ok-push_nets.ensures
    ∙ ap (λ (l : List Conn). (c.loop-number.nets.items ++ nets_of l) ++ nets_of c.as_slice-in-loop-number.result.now) c.as_slice.ensures
    ∙ ap (λ (l : List Conn). (c.loop-number.nets.items ++ nets_of c.index-atoms-number.result.ins) ++ nets_of l) c.as_slice-in-loop-number.ensures)
