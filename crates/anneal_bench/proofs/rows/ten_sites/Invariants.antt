-- As many sites as were passed.
use Rattle.std.proofs.Common.{◌≡◌, length}
use Rattle.anneal_bench.proofs.rows.ten_sites.Given as goal

abbrev pub invariant-loop-number : goal.invariant-loop-number
invariant-loop-number l = length l.sites.items ≡ l.number
