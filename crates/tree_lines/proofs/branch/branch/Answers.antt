use Rattle.std.proofs.Common.{[]}
use Rattle.tree_lines.proofs.EachWord.{last_word}
use Rattle.tree_lines.proofs.Behind.{no_count}
use Rattle.tree_lines.proofs.branch.branch.Goals as goal

pub returns-in_err-kids : goal.returns-in_err-kids
returns-in_err-kids c =
    rw c.from_residual.ensures
    (no_count c.args.graph.now c.args.task.now _ _ _ (last_word c.args.words.now (record { ref_ptr = (0, 0); now = [] }) c.in-len1-up.len_at_least) c.in_err-kids.ensures)
