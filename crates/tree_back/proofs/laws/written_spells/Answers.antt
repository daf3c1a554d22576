use Rattle.std.proofs.Common.{ℕ, [], slice_get}
use Rattle.std.specs.Option.{option_map_or}
use Rattle.std.proofs.lemmas.List.{length-map}
use Rattle.net_types.specs.declared.atom.Atom.{Atom}
use Rattle.tree_lines.specs.Nodes.{task_names}
use Rattle.tree_back.proofs.Names.{task_dark}
use Rattle.tree_back.proofs.Nodes.{tree_back}
use Rattle.tree_back.proofs.laws.written_spells.Goals as goal

pub returns : goal.returns
returns c nodes whole there small =
    let many = length-map c.args.task.now.atoms (λ (n : ℕ). option_map_or (λ (a : Atom). a.name) (slice_get c.args.net.now.atoms n) []) in
    tree_back c.args.graph.now c.args.task.now (task_names c.args.net.now.atoms c.args.task.now) c.law-2.ensures c.lists_ends.ensures c.requires.plain (c.names_are_one.ensures.words c.requires.plain)
    (task_dark c.args.net.now c.law.ensures c.args.task.now c.requires.atoms) many nodes whole there small
