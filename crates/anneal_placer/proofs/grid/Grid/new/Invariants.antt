-- The sites that were passed, and how many columns and rows they can have.
use Rattle.std.proofs.Common.{◌≤◌, length}
use Rattle.anneal_placer.specs.Grid.{ArePairs}
use Rattle.anneal_placer.proofs.grid.Grid.new.Given as goal

abbrev pub invariant-loop-number : goal.invariant-loop-number
invariant-loop-number l = record {
  pairs : ArePairs l.sites l.columns.keys l.rows.keys l.pairs.items l.number;
  few_columns : length l.columns.keys ≤ l.number;
  few_rows : length l.rows.keys ≤ l.number;
}
