-- Blocks.
use Rattle.std.proofs.Common.{◌<◌}
use Rattle.std.specs.List.{All}
use Rattle.anneal_bench.proofs.rows.net_of_all.Given as goal

abbrev pub invariant-loop-block : goal.invariant-loop-block
invariant-loop-block l = All (λ block. block < l.blocks) l.net.items
