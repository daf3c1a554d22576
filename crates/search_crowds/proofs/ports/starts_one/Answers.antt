use Rattle.std.proofs.Common.{◌≡◌, ◌<◌, true, false, length, get_or, slice_get, refl, sym, ap, ◌∙◌, arith}
use Rattle.std.proofs.lemmas.Option.{slice_get-get_or, slice_get_within}
use Rattle.list_laws.proofs.Members.{has_at, at_has}
use Rattle.search_crowds.proofs.Webbing.{cannot_start, none_more}
use Rattle.search_crowds.proofs.ports.starts_one.Goals as goal

pub bounds-all-number : goal.bounds-all-number
bounds-all-number c =
    let inside = c.requires.needs _ (has_at c.args.needs.now c.loop-number.number-index _ (slice_get-get_or c.args.needs.now c.loop-number.number-index 0 c.loop-number-test.true)) in
    omega (arith, inside, ap length c.as_slice-all.ensures)

pub returns-then-not-is_source_pin : goal.returns-then-not-is_source_pin
returns-then-not-is_source_pin c = (
  λ no. let bad : false ≡ true = no in cc bad,
  λ starts. absurd (cannot_start c.args.graph.now c.args.net.now.atoms c.args.task.now c.args.trail.now.made c.args.needs.now c.args.pin.0 (λ can. let bad : false ≡ true = c.if-not-is_source_pin.ensures.1 can in cc bad) starts),
)

pub returns-then-may_start : goal.returns-then-may_start
returns-then-may_start c =
    let at = slice_get-get_or c.args.needs.now c.loop-number.number-index 0 c.loop-number-test.true in
    let number = get_or c.args.needs.now c.loop-number.number-index 0 in
    let has = has_at c.args.needs.now c.loop-number.number-index number at in
    let less : number < length c.as_slice-all.result.now = (let inside = c.requires.needs number has in omega (arith, inside, ap length c.as_slice-all.ensures)) in (
      λ yes. record { number = number; of = has; need = _; is = ap (λ l. slice_get l number) (sym c.as_slice-all.ensures) ∙ slice_get-get_or c.as_slice-all.result.now number _ less; start = c.if-may_start.ensures.0 refl },
      λ starts. refl,
    )

pub loop-number-preserved : goal.loop-number-preserved
loop-number-preserved c =
    let at = slice_get-get_or c.args.needs.now c.loop-number.number-index 0 c.loop-number-test.true in
    let number = get_or c.args.needs.now c.loop-number.number-index 0 in
    let has = has_at c.args.needs.now c.loop-number.number-index number at in
    let less : number < length c.as_slice-all.result.now = (let inside = c.requires.needs number has in omega (arith, inside, ap length c.as_slice-all.ensures)) in
    none_more c.args.graph.now c.args.net.now.atoms c.args.task.now c.args.trail.now.made c.args.needs.now c.args.pin.0 c.loop-number.number-index number _ at
    (ap (λ l. slice_get l number) (sym c.as_slice-all.ensures) ∙ slice_get-get_or c.as_slice-all.result.now number _ less)
    (λ start. let bad : false ≡ true = c.if-may_start.ensures.1 start in cc bad)
    c.loop-number.invariant

pub returns : goal.returns
returns c = (
  λ no. let bad : false ≡ true = no in cc bad,
  λ starts. absurd (
      let r = at_has c.args.needs.now starts.number starts.of in
      let less = slice_get_within c.args.needs.now r.0 starts.number r.1 in
      c.loop-number.invariant r.0 starts.number starts.need (omega (arith, less, c.loop-number-test.false)) r.1 starts.is starts.start),
)
