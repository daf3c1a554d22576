use Rattle.std.proofs.Common.{Bor, sym, subst}
use Rattle.std.specs.List.{All}
use Rattle.net_types.specs.declared.atom.Atom.{Atom}
use Rattle.blif_text.specs.Atoms.{IsWritable}
use Rattle.blif_text.proofs.Merged.{all_writable}
use Rattle.blif_text.proofs.writer.netlist_text.Goals as goal

pub put_atoms-requires : goal.put_atoms-requires
put_atoms-requires c =
    subst (λ l. All (λ (b : Bor Atom). IsWritable c.args.models.now c.nets.result.now b.now) l) (sym c.as_slice.ensures.value)
    (subst (λ n. All (λ (b : Bor Atom). IsWritable c.args.models.now n b.now) c.in_ok-lines.lines.items) (sym c.nets.ensures)
    (all_writable c.args.models.now c.args.net.now c.in_ok-lines.lines.items c.law.ensures c.requires c.in_ok-lines.ensures))
