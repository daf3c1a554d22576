use Rattle.meta_parts.specs.Seen.{index_of}
use Rattle.meta_parts.proofs.Forming.{no_bit}
use Rattle.meta_parts.proofs.forms.bit_form.Goals as goal

pub returns-in_err-bit : goal.returns-in_err-bit
returns-in_err-bit c =
    let i = c.in_ok-indexed.indexed in
    rw c.from_residual-in_err-bit.ensures (no_bit c.args.word.now i.name.now (index_of i) c.in_ok-indexed.ensures c.in_err-bit.ensures)
