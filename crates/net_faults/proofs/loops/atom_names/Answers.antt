use Rattle.std.proofs.Common.{arith, slice_index_or}
use Rattle.std.proofs.lemmas.Option.{slice_get-get_or}
use Rattle.std.proofs.lemmas.Grind.{common_steps}
use Rattle.list_laws.proofs.Members.{has_at}
use Rattle.net_faults.proofs.Looping.{name_read}
use Rattle.net_faults.proofs.loops.atom_names.Goals as goal

pub bounds-atoms-number : goal.bounds-atoms-number
bounds-atoms-number c =
    let numbers = c.args.numbers.now in
    let at = c.loop-number.number-index in
    c.requires (slice_index_or numbers at 0) (has_at numbers at (slice_index_or numbers at 0) (slice_get-get_or numbers at 0 c.loop-number-test.true))

pub loop-number-preserved : goal.loop-number-preserved
loop-number-preserved c =
    let numbers = c.args.numbers.now in
    let at = c.loop-number.number-index in
    let number = slice_index_or numbers at 0 in
    let atom = c.index-atoms-number.result in
    let low = c.requires number (has_at numbers at number (slice_get-get_or numbers at 0 c.loop-number-test.true)) in
    let name = name_read c.args.atoms.now number atom atom low c.index-atoms-number.is in
    grind (arith, common_steps, name)
