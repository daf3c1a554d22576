use Rattle.std.proofs.Common.{◌∙◌, ap, length}
use Rattle.std.proofs.lemmas.Result.{err_from_is_err_and}
use Rattle.blif_drafts.proofs.Mentioned.{names_made, names_refused, same_width}
use Rattle.blif_drafts.proofs.making.make_names.Goals as goal

pub returns-in_err-make-clause-refused : goal.returns-in_err-make-clause-refused
returns-in_err-make-clause-refused c =
    let p = err_from_is_err_and c.from_residual-in_err-make.result c.from_residual-in_err-make.ensures.1 in
    rw (p.1, p.2)
    (names_refused c.args.book.now c.mention_all.new.self c.mention.new.self c.args.inputs.now c.args.output.now c.in_ok-ins.ins.items c.in_ok-out.out c.args.place c.in_err-make.field-0.0 c.in_ok-ins.ensures.numbers c.in_ok-out.ensures
    c.in_err-make.ensures.refused)

pub returns-clause-made : goal.returns-clause-made
returns-clause-made c =
    rw c.from_vec.ensures
    (names_made c.args.book.now c.mention_all.new.self c.mention.new.self c.make.new.self c.args.inputs.now c.args.output.now c.in_ok-ins.ins.items c.in_ok-out.out c.in_ok-ins.ensures.numbers c.in_ok-out.ensures
    c.in_ok-make.ensures.made)

pub returns-clause-width : goal.returns-clause-width
returns-clause-width c = ap length c.from_vec.ensures ∙ same_width c.args.book.now c.mention_all.new.self c.args.inputs.now c.in_ok-ins.ins.items c.in_ok-ins.ensures.numbers
