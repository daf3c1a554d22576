use Rattle.std.proofs.Common.{Bor, sym, subst}
use Rattle.net_types.specs.declared.atom.Atom.{Atom}
use Rattle.blif_text.specs.Atoms.{IsAtomText, IsWritable}
use Rattle.blif_text.proofs.Bodies.{begun_more}
use Rattle.blif_text.proofs.writer.put_atoms.Goals as goal

pub put_atom-requires : goal.put_atom-requires
put_atom-requires c =
    subst (λ (b : Bor Atom). IsWritable c.args.models.now c.args.nets.now b.now) (sym c.atom-item.is) (c.requires c.loop-atom.atom-index c.atom-item.result c.loop-atom-test.true)

pub loop-atom-preserved : goal.loop-atom-preserved
loop-atom-preserved c =
    let put = c.in_ok-put_atom.ensures in
    begun_more c.args.models.now c.args.nets.now c.args.atoms.now c.loop-atom.atom-index c.atom-item.result c.args.out.now.items c.loop-atom.out.items c.put_atom.new.out.items put.0
    c.loop-atom-test.true (subst (λ (b : Bor Atom). IsAtomText c.args.models.now c.args.nets.now b.now put.0) c.atom-item.is put.1) put.2 c.loop-atom.invariant
