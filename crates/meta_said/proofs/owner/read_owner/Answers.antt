use Rattle.std.proofs.lemmas.Result.{err_from_is_err_and}
use Rattle.meta_said.proofs.Meaning.{all_said, stops_here}
use Rattle.meta_said.proofs.owner.read_owner.Goals as goal

pub returns-in_err-read_meta-clause-refused : goal.returns-in_err-read_meta-clause-refused
returns-in_err-read_meta-clause-refused c =
    let p = err_from_is_err_and c.from_residual-in_err-read_meta.result c.from_residual-in_err-read_meta.ensures.1 in
    rw (p.1, p.2) (stops_here c.in_ok-kind.kind c.args.count c.args.metas.now c.loop-meta.meta-index c.meta-item.result c.loop-meta.said c.in_err-read_meta.field-0.0 c.in_ok-kind.ensures
    c.loop-meta-test.true c.meta-item.is c.loop-meta.invariant c.in_err-read_meta.ensures)

pub returns-clause-ok : goal.returns-clause-ok
returns-clause-ok c =
    let means = c.one_meaning.ensures in
    all_said (record { prefix = means.prefix; features = means.features; kind = means.kind; lut = means.lut; children = means.children; params = means.params })
    c.in_ok-kind.kind c.args.count c.args.metas.now c.loop-meta.meta-index c.loop-meta.said c.in_ok-kind.ensures c.loop-meta-test.false c.loop-meta.invariant
