use Rattle.search_choice.proofs.next.next_var.Goals as goal

pub returns-in-Some-clause-some : goal.returns-in-Some-clause-some
returns-in-Some-clause-some c = c.in-Some.ensures.next c.args.net.now.atoms

pub returns-in-Some-next_leaf-clause-some : goal.returns-in-Some-next_leaf-clause-some
returns-in-Some-next_leaf-clause-some c = c.in-Some-next_leaf.ensures.next c.args.net.now.atoms
