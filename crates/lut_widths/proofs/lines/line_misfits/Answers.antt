use Rattle.std.proofs.Common.{Some, length, sym, ap, ◌∙◌, subst, arith, refl}
use Rattle.std.proofs.lemmas.Option.{slice_get_within, slice_get_read}
use Rattle.lut_widths.specs.Tables.{AreSeen}
use Rattle.lut_widths.proofs.Seeing.{any_place, no_place, inserted, seen_still, seen_new, has_for}
use Rattle.lut_widths.proofs.Lining.{unknown_fits, seen_before, unseen_before, new_misfits}
use Rattle.lut_widths.proofs.lines.line_misfits.Goals as goal

pub returns-in_default-clause-seen : goal.returns-in_default-clause-seen
returns-in_default-clause-seen c = λ kids before are old.
    seen_still c.args.table.now.names before c.args.seen.now.keys c.args.line.now (λ n name there for. absurd (c.in_default.ensures n (there ∙ ap Some (sym for.0 ∙ sym c.as_bytes.ensures)))) old

pub returns-in_default-clause-misfits : goal.returns-in_default-clause-misfits
returns-in_default-clause-misfits c = λ kids before are old.
    (λ yes. absurd (cc), λ misfits. absurd (unknown_fits kids c.args.table.now.names c.args.table.now.reaches.items before c.args.line.now (λ n there. c.in_default.ensures n (there ∙ ap Some (sym c.as_bytes.ensures))) are misfits))

pub returns-then-contains-clause-seen : goal.returns-then-contains-clause-seen
returns-then-contains-clause-seen c = λ kids before are old.
    let there = c.in-Some.ensures.there ∙ ap Some c.as_bytes.ensures in
    let had = seen_before c.args.table.now.names before c.args.seen.now.keys c.args.line.now c.in-Some.child there old (any_place c.args.seen.now.keys _ (sym c.contains.ensures ∙ c.if-contains.true)) in
    seen_still c.args.table.now.names before c.args.seen.now.keys c.args.line.now (λ n name at for. has_for before c.args.line.now name had for) old

pub returns-then-contains-clause-misfits : goal.returns-then-contains-clause-misfits
returns-then-contains-clause-misfits c = λ kids before are old.
    let there = c.in-Some.ensures.there ∙ ap Some c.as_bytes.ensures in
    let had = seen_before c.args.table.now.names before c.args.seen.now.keys c.args.line.now c.in-Some.child there old (any_place c.args.seen.now.keys _ (sym c.contains.ensures ∙ c.if-contains.true)) in
    (λ yes. absurd (cc), λ misfits. absurd (misfits.new had))

pub index-reach-requires : goal.index-reach-requires
index-reach-requires c =
    let within = slice_get_within c.args.table.now.names c.in-Some.child c.as_bytes.result.now c.in-Some.ensures.there in
    omega (arith, within, c.requires)

pub returns-clause-seen : goal.returns-clause-seen
returns-clause-seen c = λ kids before are old.
    let there = c.in-Some.ensures.there ∙ ap Some c.as_bytes.ensures in
    let none = sym c.contains.ensures ∙ c.if-contains.false in
    let new = unseen_before c.args.table.now.names before c.args.seen.now.keys c.args.line.now c.in-Some.child there old (no_place c.args.seen.now.keys _ none) in
    subst (AreSeen c.args.table.now.names _) (sym (c.in_ok-insert.ensures.keys ∙ inserted c.args.seen.now.keys _ none))
    (seen_new c.args.table.now.names before c.args.seen.now.keys c.args.line.now c.in-Some.child c.law.ensures.once there new old)

pub returns-clause-misfits : goal.returns-clause-misfits
returns-clause-misfits c = λ kids before are old.
    let there = c.in-Some.ensures.there ∙ ap Some c.as_bytes.ensures in
    let none = sym c.contains.ensures ∙ c.if-contains.false in
    let new = unseen_before c.args.table.now.names before c.args.seen.now.keys c.args.line.now c.in-Some.child there old (no_place c.args.seen.now.keys _ none) in
    let within = slice_get_within c.args.table.now.names c.in-Some.child c.as_bytes.result.now c.in-Some.ensures.there in
    let at = slice_get_read c.args.table.now.reaches.items (length c.args.table.now.reaches.items) c.in-Some.child _ refl (omega (arith, within, c.requires)) c.index-reach.ensures in
    new_misfits kids c.args.table.now.names c.args.table.now.reaches.items before c.args.line.now c.in-Some.child _ c.bits_of.result c.misfit.result there at c.bits_of.ensures.bits are new c.misfit.ensures
