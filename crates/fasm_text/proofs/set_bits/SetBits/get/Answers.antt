use Rattle.std.proofs.Common.{◌≡◌, ◌≤◌, Some, length, sym, ◌∙◌, ap, subst}
use Rattle.std.specs.Prelude.{slice_get, slice_range}
use Rattle.fasm_text.proofs.Keeping.{inside_at, got}
use Rattle.fasm_text.proofs.set_bits.SetBits.get.Goals as goal

pub part-requires-clause-order : goal.part-requires-clause-order
part-requires-clause-order c =
    let there = ap (λ l. slice_get l c.args.place) (sym c.as_slice.ensures.value) ∙ sym c.in_ok-kept.ensures in
    (inside_at _ c.self.inside.set.items c.args.place c.in_ok-kept.kept c.self.invariant there).0

pub part-requires-clause-inside : goal.part-requires-clause-inside
part-requires-clause-inside c =
    let there = ap (λ l. slice_get l c.args.place) (sym c.as_slice.ensures.value) ∙ sym c.in_ok-kept.ensures in
    subst (λ l. c.in_ok-kept.kept.end ≤ length l) (sym c.as_slice-2.ensures.value)
    (inside_at _ c.self.inside.set.items c.args.place c.in_ok-kept.kept c.self.invariant there).1

pub returns : goal.returns
returns c =
    let there = ap (λ l. slice_get l c.args.place) (sym c.as_slice.ensures.value) ∙ sym c.in_ok-kept.ensures in
    subst (λ v. slice_get v c.args.place ≡ Some (record { name = c.part.result.now; bit = c.in_ok-kept.kept.bit })) c.self.view_is
    (got c.self.inside.names.items c.part.result.now c.self.inside.set.items c.args.place c.in_ok-kept.kept there
    (c.part.ensures ∙ ap (λ l. slice_range l c.in_ok-kept.kept.start c.in_ok-kept.kept.end) c.as_slice-2.ensures.value))
