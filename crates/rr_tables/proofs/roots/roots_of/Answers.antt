use Rattle.std.proofs.Common.{◌++◌, sym, ap, ◌∙◌}
use Rattle.std.specs.Option.{option_to_list}
use Rattle.std.proofs.lemmas.List.{append-nil}
use Rattle.rr_tables.specs.Roots.{root_of}
use Rattle.rr_tables.proofs.Rooting.{with_place}
use Rattle.rr_tables.proofs.roots.roots_of.Goals as goal
use Rattle.rr_tables.proofs.roots.roots_of.Goals.{in-Some+in_ok-push, in_default}

pub loop-place-preserved : goal.loop-place-preserved
loop-place-preserved c = elim c.match-root_of.branch [
  | in-Some+in_ok-push w ↦
      with_place (root_of c.args.tiles.now c.args.types.now) c.args.places.now c.loop-place.place-index _ c.loop-place-test.true c.root_of.result
      c.loop-place.roots.items c.match-root_of.roots.items c.root_of.ensures c.loop-place.invariant
      (ap (λ v. v.items) w.roots-is ∙ w.in_ok-push.ensures.items ∙ ap (λ r. c.loop-place.roots.items ++ option_to_list r) (sym w.in-Some.is))
  | in_default w ↦
      with_place (root_of c.args.tiles.now c.args.types.now) c.args.places.now c.loop-place.place-index _ c.loop-place-test.true c.root_of.result
      c.loop-place.roots.items c.match-root_of.roots.items c.root_of.ensures c.loop-place.invariant
      (ap (λ v. v.items) w.roots-is ∙ sym (append-nil c.loop-place.roots.items) ∙ ap (λ r. c.loop-place.roots.items ++ option_to_list r) (sym w.in_default.is))
]
