use Rattle.std.proofs.Common.{◌≡◌, take}
use Rattle.real_lines.specs.Nets.{net_names}
use Rattle.real_text.proofs.table.nets_by_name.Given as goal

abbrev pub invariant-loop-of : goal.invariant-loop-of
invariant-loop-of l = l.names ≡ take l.of-index (net_names l.net.nets l.task)
