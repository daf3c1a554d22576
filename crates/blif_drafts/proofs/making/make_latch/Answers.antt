use Rattle.std.proofs.lemmas.Result.{err_from_is_err_and}
use Rattle.blif_drafts.proofs.Mentioned.{latch_refused}
use Rattle.blif_drafts.proofs.making.make_latch.Goals as goal

pub returns-in_err-make-clause-refused : goal.returns-in_err-make-clause-refused
returns-in_err-make-clause-refused c =
    let p = err_from_is_err_and c.from_residual-in_err-make.result c.from_residual-in_err-make.ensures.1 in
    rw (p.1, p.2)
    (latch_refused c.args.book.now c.mention.new.self c.mention-2.new.self c.mention-3.new.self c.args.loaded.now c.args.made.now c.args.control.now c.in_ok-data_net.data_net c.in_ok-out.out c.in_ok-control_net.control_net c.args.place c.in_err-make.field-0.0
    c.in_ok-data_net.ensures c.in_ok-out.ensures c.in_ok-control_net.ensures c.in_err-make.ensures.refused)
