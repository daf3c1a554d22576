use Rattle.std.proofs.Common.{◌≡◌, ◌+◌, ◌<◌, ℕ, List, Option, Some, drop, length, sym, ap, ◌∙◌, subst, arith}
use Rattle.std.proofs.lemmas.List.{take_at}
use Rattle.std.proofs.lemmas.Option.{slice_get-get_or}
use Rattle.std.specs.List.{All}
use Rattle.net_types.specs.declared.atom.Atom.{Atom}
use Rattle.net_types.specs.declared.atom.Conn.{Conn}
use Rattle.net_faults.proofs.Making.{makers_step, makers_end, AreMakersBelow}
use Rattle.net_faults.proofs.drivers.makers_of.Goals as goal

pub put_maker-requires : goal.put_maker-requires
put_maker-requires c =
    let atom = c.index-atoms-number.result in
    let within = (c.requires.within c.loop-number.number atom c.loop-number-test.true).1 in
    let outs = subst (λ (a : Atom). All (λ (k : Conn). k.net < c.args.nets) a.outs) (sym c.index-atoms-number.is) within in
    rw (c.as_slice.ensures, c.as_mut_slice.ensures.value, c.loop-number.invariant.long) outs

pub loop-number-preserved : goal.loop-number-preserved
loop-number-preserved c =
    let items = c.loop-number.makers.items in
    let new = c.put_maker.new.makers in
    let atoms = c.args.atoms.now in
    let number = c.loop-number.number in
    let atom = c.index-atoms-number.result in
    let written = take_at new (drop (length new) items) c.loop-number.makers.len (omega (arith, c.put_maker.ensures.long, c.as_mut_slice.ensures.len)) in
    let puts = rw (c.as_slice.ensures, c.as_mut_slice.ensures.value) at c.put_maker.ensures in
    let there = slice_get-get_or atoms number atom c.loop-number-test.true ∙ ap Some (sym c.index-atoms-number.is) in
    subst (λ (l : List (Option ℕ)). AreMakersBelow atoms c.args.nets (number + 1) l) (sym written)
    (makers_step atoms c.args.nets number atom items new there c.loop-number.invariant puts)

pub returns : goal.returns
returns c =
    let all : c.loop-number.number ≡ length c.args.atoms.now = omega (arith, c.loop-number-test.false, c.loop-number.auto.number-end) in
    makers_end c.args.atoms.now c.args.nets c.loop-number.number c.loop-number.makers.items all c.loop-number.invariant
