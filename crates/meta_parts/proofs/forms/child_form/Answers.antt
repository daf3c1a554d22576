use Rattle.meta_parts.specs.Seen.{index_of}
use Rattle.meta_parts.proofs.Forming.{no_instance}
use Rattle.meta_parts.proofs.forms.child_form.Goals as goal

pub returns-in_err-instance : goal.returns-in_err-instance
returns-in_err-instance c =
    let i = c.in_ok-indexed.indexed in
    rw c.from_residual-in_err-instance.ensures (no_instance c.args.word.now i.name.now (index_of i) c.in_ok-indexed.ensures c.in_err-instance.ensures)
