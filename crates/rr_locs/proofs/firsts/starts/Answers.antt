use Rattle.std.proofs.Common.{◌+◌, ◌∙◌, ap, length, slice_index_or, subst, sym}
use Rattle.std.proofs.lemmas.Option.{slice_get-get_or, get_or_from_slice_get}
use Rattle.rr_locs.specs.declared.roots.LocAt.{LocAt}
use Rattle.rr_locs.specs.Firsts.{AreStarts}
use Rattle.rr_locs.proofs.Starts.{starts_more, starts_pass, starts_past}
use Rattle.rr_locs.proofs.firsts.starts.Goals as goal
use Rattle.rr_locs.proofs.firsts.starts.Goals.{then-loc-eq0+in_ok-add, else-loc-eq0}

pub loop-number-preserved : goal.loop-number-preserved
loop-number-preserved c =
    let nowhere : LocAt = record { x = 0; y = 0; sub = 0; tile = 0 } in
    let locs = c.args.locs.now in
    let k = c.loop-number.number in
    elim c.if-loc-eq0.branch [
      | then-loc-eq0+in_ok-add w ↦
          subst (AreStarts locs (k + 1)) (sym w.firsts-is)
          (starts_more locs k (slice_index_or locs k nowhere) c.loop-number.firsts w.add.new.self
          (slice_get-get_or locs k nowhere c.loop-number-test.true) w.if-loc-eq0.true c.loop-number.invariant w.in_ok-add.ensures)
      | else-loc-eq0 w ↦
          subst (AreStarts locs (k + 1)) (sym w.firsts-is) (starts_pass locs k c.loop-number.firsts c.loop-number.invariant (λ x y starts.
          w.if-loc-eq0.false (ap (λ l. l.sub) (get_or_from_slice_get locs k starts.loc nowhere starts.at) ∙ starts.sub_is)))
    ]

pub returns : goal.returns
returns c = starts_past c.args.locs.now c.loop-number.number (length c.args.locs.now) c.loop-number.firsts c.loop-number-test.false c.loop-number.invariant
