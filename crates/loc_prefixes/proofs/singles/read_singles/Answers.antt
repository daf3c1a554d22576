use Rattle.std.proofs.Common.{take, ◌+◌, sym, subst}
use Rattle.meta_lines.specs.Each.{Each}
use Rattle.loc_prefixes.specs.Singles.{SaysSingle}
use Rattle.loc_prefixes.proofs.Singling.{says_more, told_at}
use Rattle.loc_prefixes.proofs.singles.read_singles.Goals as goal

pub returns-in-Err-clause-refused : goal.returns-in-Err-clause-refused
returns-in-Err-clause-refused c =
    told_at c.args.tiles.now c.args.singles.now c.loop-number.number c.index-singles-number.result c.loop-number.said.items c.in-Err.e c.refused_at.result
    c.loop-number-test.true c.index-singles-number.is c.loop-number.invariant c.refused_at.ensures.short c.refused_at.ensures.refused c.in-Err.ensures.refused

pub loop-number-preserved : goal.loop-number-preserved
loop-number-preserved c =
    subst (λ l. Each (SaysSingle c.args.tiles.now) (take (c.loop-number.number + 1) c.args.singles.now) l) (sym c.in_ok-push-in-Ok.ensures.items)
    (says_more c.args.tiles.now c.args.singles.now c.loop-number.number c.index-singles-number.result c.loop-number.said.items c.in-Ok.here
    c.loop-number-test.true c.index-singles-number.is c.loop-number.invariant c.in-Ok.ensures.ok)
