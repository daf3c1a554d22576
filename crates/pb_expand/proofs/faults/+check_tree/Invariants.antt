use Rattle.std.proofs.Common.{◌+◌, ◌++◌, drop}
use Rattle.pb_expand.specs.Types.{modes_in_tree}
use Rattle.pb_expand.proofs.TypeLemmas.{modes_list, kids_list}
use Rattle.pb_expand.proofs.FirstFaults.{Goes}
use Rattle.pb_expand.proofs.faults.+check_tree.Given as goal

abbrev pub invariant-loop-mode : goal.invariant-loop-mode
invariant-loop-mode l = Goes (modes_in_tree l.block) (modes_list (drop l.mode-index l.mode-items))

abbrev pub invariant-loop-kid : goal.invariant-loop-kid
invariant-loop-kid l = Goes (modes_in_tree l.block) (kids_list (drop l.kid-index l.kid-items) ++ modes_list (drop (l.mode-index + 1) l.mode-items))
