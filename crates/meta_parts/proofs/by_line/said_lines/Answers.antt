use Rattle.std.proofs.Common.{arith, sym, ◌∙◌, refl, subst}
use Rattle.meta_parts.proofs.Lining.{IsAlong, along_empty, along_said}
use Rattle.meta_parts.proofs.by_line.said_lines.Goals.{then-says_something+in_ok-push, else-says_something}
use Rattle.meta_parts.proofs.by_line.said_lines.Goals as goal

pub loop-line-preserved : goal.loop-line-preserved
loop-line-preserved c =
    let text = c.args.text.now in
    let line = c.in-Some.line.now in
    let behind = c.in-Some.behind.now in
    let number = c.loop-line.number in
    let next = c.saturating_add-number in
    elim c.if-says_something.branch [
      | then-says_something+in_ok-push w ↦
          subst (λ v. IsAlong text behind v.items next.result) (sym w.found-is)
          (subst (λ l. IsAlong text behind l next.result) (sym w.in_ok-push.ensures.items)
          (along_said text c.loop-line.rest.now line behind c.loop-line.found.items _ number next.result c.loop-line.invariant c.in-Some.ensures.line
          (sym c.says_something.ensures ∙ w.if-says_something.true) refl refl (omega (arith, next.ensures))))
      | else-says_something w ↦
          subst (λ v. IsAlong text behind v.items next.result) (sym w.found-is)
          (along_empty text c.loop-line.rest.now line behind c.loop-line.found.items number next.result c.loop-line.invariant c.in-Some.ensures.line
          (sym c.says_something.ensures ∙ w.if-says_something.false) (omega (arith, next.ensures)))
    ]
