use Rattle.std.proofs.Common.{◌<◌, length, slice_index_or, sym, subst, arith}
use Rattle.blif_items.proofs.Placed.{first_in}
use Rattle.blif_items.proofs.placing.cell_name.Goals as goal

pub text-requires : goal.text-requires
text-requires c =
    subst (λ l. slice_index_or c.args.outs.now 0 0 < length l) (sym c.nets.ensures)
    (c.requires (slice_index_or c.args.outs.now 0 0) (first_in c.args.outs.now (omega (arith, c.in-len1-up.len_at_least))))
