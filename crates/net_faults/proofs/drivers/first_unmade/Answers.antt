use Rattle.std.proofs.Common.{None, arith}
use Rattle.std.proofs.lemmas.Option.{slice_get_within}
use Rattle.list_laws.proofs.Members.{at_has}
use Rattle.net_faults.proofs.drivers.first_unmade.Goals as goal

pub returns : goal.returns
returns c = λ has.
    (let at = at_has c.args.makers.now None has in
    let low = slice_get_within c.args.makers.now at.0 None at.1 in
    c.loop-net.invariant at.0 (omega (arith, low, c.loop-net-test.false, c.loop-net.auto.net-end)) at.1)
