use Rattle.tree_lines.specs.Nodes.{task_names}
use Rattle.real_lines.specs.Nets.{net_names}
use Rattle.real_text.proofs.AtomNames.{names_once}
use Rattle.real_text.proofs.NetNames.{nets_once}
use Rattle.real_text.proofs.OneReal as reals
use Rattle.real_text.proofs.laws.laws_of_reals.Goals as goal

pub returns-clause-one : goal.returns-clause-one
returns-clause-one c =
    let t = c.args.task.now in
    let atoms = task_names c.args.net.now.atoms t in
    let nets = net_names c.args.net.now.nets t in
    let once = names_once c.args.net.now.atoms t c.requires.atoms c.law.ensures.atoms.once in
    let apart = nets_once c.args.net.now.nets t c.requires.nets c.law.ensures.nets.once in
    reals.one_real c.args.graph.now t atoms nets (λ line x y a b. c.laws_of_lines.ensures.one c.requires.plain t atoms nets line x y once apart a b)
    (λ line x n e a l. c.laws_of_lines.ensures.spelled c.requires.plain t atoms nets line x n e once apart a l)
    (λ line n e f a b. c.laws_of_lines.ensures.lacks c.requires.plain t atoms nets line n e f once apart a b)

pub returns-clause-read : goal.returns-clause-read
returns-clause-read c =
    let t = c.args.task.now in
    let atoms = task_names c.args.net.now.atoms t in
    let nets = net_names c.args.net.now.nets t in
    let once = names_once c.args.net.now.atoms t c.requires.atoms c.law.ensures.atoms.once in
    let apart = nets_once c.args.net.now.nets t c.requires.nets c.law.ensures.nets.once in
    reals.never_both c.args.graph.now t atoms nets (λ line x y a b. c.laws_of_lines.ensures.one c.requires.plain t atoms nets line x y once apart a b)
    (λ line x n e a l. c.laws_of_lines.ensures.spelled c.requires.plain t atoms nets line x n e once apart a l)
    (λ line n e f a b. c.laws_of_lines.ensures.lacks c.requires.plain t atoms nets line n e f once apart a b)

pub returns-clause-refused : goal.returns-clause-refused
returns-clause-refused c =
    let t = c.args.task.now in
    let atoms = task_names c.args.net.now.atoms t in
    let nets = net_names c.args.net.now.nets t in
    let once = names_once c.args.net.now.atoms t c.requires.atoms c.law.ensures.atoms.once in
    let apart = nets_once c.args.net.now.nets t c.requires.nets c.law.ensures.nets.once in
    reals.one_refusal c.args.graph.now t atoms nets (λ line x y a b. c.laws_of_lines.ensures.one c.requires.plain t atoms nets line x y once apart a b)
    (λ line x n e a l. c.laws_of_lines.ensures.spelled c.requires.plain t atoms nets line x n e once apart a l)
    (λ line n e f a b. c.laws_of_lines.ensures.lacks c.requires.plain t atoms nets line n e f once apart a b)
