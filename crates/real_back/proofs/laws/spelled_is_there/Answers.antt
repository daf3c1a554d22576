use Rattle.std.proofs.Common.{[], slice_get}
use Rattle.std.specs.Option.{unwrap_or}
use Rattle.std.proofs.lemmas.List.{length-map}
use Rattle.task_types.specs.declared.task.TaskNet.{TaskNet}
use Rattle.tree_lines.specs.Nodes.{task_names}
use Rattle.real_lines.specs.Nets.{net_names}
use Rattle.real_back.proofs.There.{spelled_there}
use Rattle.real_back.proofs.laws.spelled_is_there.Goals as goal

pub returns : goal.returns
returns c =
    let t = c.args.task.now in
    let many = length-map t.nets (λ (of : TaskNet). unwrap_or (slice_get c.args.net.now.nets of.net) []) in
    spelled_there c.args.graph.now t (task_names c.args.net.now.atoms t) (net_names c.args.net.now.nets t) many c.laws_of_lines.ensures.kept
