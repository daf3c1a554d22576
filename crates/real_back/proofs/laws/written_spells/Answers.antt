use Rattle.std.proofs.Common.{ℕ, [], slice_get, arith}
use Rattle.std.specs.Option.{option_map_or, unwrap_or}
use Rattle.std.proofs.lemmas.List.{length-map}
use Rattle.net_types.specs.declared.atom.Atom.{Atom}
use Rattle.task_types.specs.declared.task.TaskNet.{TaskNet}
use Rattle.tree_lines.specs.Nodes.{task_names}
use Rattle.real_lines.specs.Nets.{net_names}
use Rattle.real_back.proofs.Named.{atom_texts, net_texts}
use Rattle.real_back.proofs.Back.{spells_back, home_fits, entry_fits}
use Rattle.real_back.proofs.laws.written_spells.Goals as goal

pub returns : goal.returns
returns c r there spelled =
    let g = c.args.graph.now in
    let t = c.args.task.now in
    let atoms = task_names c.args.net.now.atoms t in
    let nets = net_names c.args.net.now.nets t in
    let many_atoms = length-map t.atoms (λ (n : ℕ). option_map_or (λ (a : Atom). a.name) (slice_get c.args.net.now.atoms n) []) in
    let many_nets = length-map t.nets (λ (of : TaskNet). unwrap_or (slice_get c.args.net.now.nets of.net) []) in
    let texts = c.laws_of_names.ensures c.requires.plain in
    spells_back g t atoms nets c.one_division.ensures.lines r there spelled (omega (arith, many_atoms, there.each))
    (home_fits g t atoms nets texts (atom_texts c.args.net.now.atoms c.names_are_words.ensures.atoms t c.requires.atoms) r there)
    (entry_fits g t atoms nets texts (net_texts c.args.net.now.nets c.names_are_words.ensures.nets t c.requires.nets) many_nets r there)
