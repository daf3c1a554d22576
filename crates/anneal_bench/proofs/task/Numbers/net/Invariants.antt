-- Blocks.
use Rattle.std.proofs.Common.{◌<◌}
use Rattle.std.specs.List.{All}
use Rattle.anneal_bench.proofs.task.Numbers.net.Given as goal

abbrev pub invariant-loop : goal.invariant-loop
invariant-loop l = All (λ block. block < l.blocks) l.net.items
