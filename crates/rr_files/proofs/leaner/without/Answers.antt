use Rattle.std.proofs.Common.{◌≡◌, get_or, sym, ap, subst, ◌∙◌}
use Rattle.std.proofs.lemmas.Option.{slice_get_read}
use Rattle.elem_text.specs.declared.elem.Elem.{Elem, out-Elem}
use Rattle.rr_files.proofs.Thinning.{IsThinned, kids_are, thinner}
use Rattle.rr_files.proofs.leaner.without.Goals as goal
use Rattle.rr_files.proofs.leaner.without.Goals.{then-has_tag, else-has_tag}

pub loop-at-preserved : goal.loop-at-preserved
loop-at-preserved c = elim c.if-has_tag.branch [
  | then-has_tag w ↦
      (let kids = (out-Elem c.loop-at.elem).kids in
      let kid = c.index-as_slice-at.result in
      let read = subst (λ l. kid ≡ get_or l c.loop-at.at kid) c.as_slice.ensures c.index-as_slice-at.is in
      thinner c.args.name.now c.args.elem c.loop-at.elem c.if-has_tag.elem w.nothing.result kid c.loop-at.at c.len-at-end.result c.loop-at.invariant
      (ap (λ (e : Elem). (out-Elem e).kids) w.elem-is ∙ kids_are _ _ _ _ _ ∙ w.set.ensures)
      (slice_get_read kids c.len-at-end.result c.loop-at.at kid (sym c.loop-at.invariant.long) c.loop-at-test.true read) (sym w.if-has_tag.ensures) w.nothing.ensures)
  | else-has_tag w ↦ subst (λ e. IsThinned c.args.name.now c.args.elem e c.len-at-end.result) (sym w.elem-is) c.loop-at.invariant
]
