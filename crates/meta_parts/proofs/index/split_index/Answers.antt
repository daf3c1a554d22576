use Rattle.meta_parts.proofs.Indexing.{none_open}
use Rattle.meta_parts.proofs.index.split_index.Goals as goal

pub returns-in_err-name : goal.returns-in_err-name
returns-in_err-name c =
    rw c.from_residual.ensures (none_open c.args.text.now c.in-Some.opened.now c.in-Some.ensures c.in_err-name.ensures)
