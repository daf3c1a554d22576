use Rattle.std.proofs.Common.{◌≡◌, Err, length, ap, arith}
use Rattle.pb_expand.specs.declared.error.SizeError.TheVariants as size
use Rattle.pb_expand.proofs.Told.{passed_on}
use Rattle.pb_expand.proofs.Copies.{copied_more, copied_no_room}
use Rattle.pb_expand.proofs.rows.push_copies.Goals as goal

pub loop-instance-preserved : goal.loop-instance-preserved
loop-instance-preserved c =
    let last : c.len-end.result ≡ length c.args.rows.now.items = omega (arith, c.len-end.ensures) in
    copied_more c.args.rows.now.items c.loop-instance.rows.items c.push_copy.new.rows.items c.args.step c.args.first.0 c.len-end.result c.args.kid.now.kind
    c.loop-instance.instance c.args.kid.now.count c.requires.tree c.requires.first c.loop-instance.invariant c.loop-instance-test.true last
    c.in_ok-push_copy.ensures.few c.in_ok-push_copy.ensures.added

pub returns-in_err-push_copy-clause-many : goal.returns-in_err-push_copy-clause-many
returns-in_err-push_copy-clause-many c = λ told.
    let last : c.len-end.result ≡ length c.args.rows.now.items = omega (arith, c.len-end.ensures) in
    copied_no_room c.args.rows.now.items c.loop-instance.rows.items c.args.step c.args.first.0 c.len-end.result c.args.kid.now.kind
    c.loop-instance.instance c.args.kid.now.count c.requires.tree c.requires.first c.loop-instance.invariant c.loop-instance-test.true last
    (c.in_err-push_copy.ensures.many (ap Err (passed_on _ c.in_err-push_copy.field-0.0 size.TooMany c.from_residual.ensures.1 told)))
