use Rattle.meta_parts.specs.Seen.{index_of}
use Rattle.meta_parts.proofs.Forming.{no_range}
use Rattle.meta_parts.proofs.forms.range_form.Goals as goal

pub returns-in_err-bits : goal.returns-in_err-bits
returns-in_err-bits c =
    let i = c.in_ok-indexed.indexed in
    rw c.from_residual-in_err-bits.ensures (no_range c.args.word.now i.name.now (index_of i) c.in_ok-indexed.ensures c.in_err-bits.ensures)
