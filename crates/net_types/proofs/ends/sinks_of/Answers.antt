use Rattle.std.proofs.Common.{List, length, get_or, ap, arith}
use Rattle.std.proofs.lemmas.Option.{slice_get-get_or}
use Rattle.net_types.specs.declared.atom.Atom.{Atom}
use Rattle.net_types.proofs.Pairs.{keys_below, sinks_are, pairs_whole}
use Rattle.net_types.proofs.Sums.{pairs_short, conns_short}
use Rattle.net_types.proofs.ends.sinks_of.Goals as goal

pub add_pairs-requires : goal.add_pairs-requires
add_pairs-requires c =
    let atom = c.index-atoms-number.result in
    let atoms = c.args.atoms.now in
    let same = ap (λ (a : Atom). length a.ins) c.index-atoms-number.is in
    let short = conns_short atoms c.loop-number.number (get_or atoms c.loop-number.number atom) (slice_get-get_or atoms c.loop-number.number atom c.loop-number-test.true) in
    let long = ap (λ (l : List _). length l) c.as_slice.ensures in
    omega (arith, same, short, long, c.requires.few_conns)

pub from_pairs-requires-clause-keys : goal.from_pairs-requires-clause-keys
from_pairs-requires-clause-keys c =
    let whole = pairs_whole c.args.atoms.now c.loop-number.number c.loop-number.pairs.items c.loop-number-test.false c.loop-number.invariant in
    rw (c.as_slice-2.ensures.value, whole) (keys_below c.args.atoms.now c.args.nets c.requires.within)

pub from_pairs-requires-clause-size : goal.from_pairs-requires-clause-size
from_pairs-requires-clause-size c =
    let whole = pairs_whole c.args.atoms.now c.loop-number.number c.loop-number.pairs.items c.loop-number-test.false c.loop-number.invariant in
    rw (c.as_slice-2.ensures.value, whole) (omega (arith, pairs_short 0 c.args.atoms.now, c.requires.few_conns))

pub returns : goal.returns
returns c =
    let whole = pairs_whole c.args.atoms.now c.loop-number.number c.loop-number.pairs.items c.loop-number-test.false c.loop-number.invariant in
    sinks_are c.args.atoms.now c.args.nets c.in_ok-from_pairs.field-0 (rw (c.as_slice-2.ensures.value, whole) at c.in_ok-from_pairs.ensures)
