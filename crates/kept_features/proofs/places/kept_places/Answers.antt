use Rattle.std.proofs.Common.{◌++◌, ◌∷◌, [], ◌+◌, List, length, take, sym, subst}
use Rattle.meta_lines.specs.declared.types.Feature.{Feature}
use Rattle.kept_features.specs.Keys.{AreKeys}
use Rattle.kept_features.specs.Places.{KeepsAt}
use Rattle.kept_features.proofs.Keeping.{taken, behind}
use Rattle.kept_features.proofs.Placing.{in_first, in_second}
use Rattle.kept_features.proofs.places.kept_places.Goals as goal

pub loop-number-preserved : goal.loop-number-preserved
loop-number-preserved c =
    let first = c.args.first.now in
    let all = c.args.first.now ++ c.args.second.now in
    let n = c.loop-number.number in
    let f = c.index-first-number.result in
    let longer = sym (taken first n f c.loop-number-test.true c.index-first-number.is) in
    record {
      keys = subst (λ (l : List Feature). AreKeys l c.keep_place.new.keys.keys) longer (c.in_ok-keep_place.ensures.keys (take n first) c.loop-number.invariant.keys);
      places = subst (λ (l : List Feature). KeepsAt all l c.keep_place.new.places.items) longer
          (c.in_ok-keep_place.ensures.places (take n first) all c.loop-number.invariant.keys (in_first first c.args.second.now n f c.loop-number-test.true c.index-first-number.is) c.loop-number.invariant.places);
    }

pub loop-number-2-preserved : goal.loop-number-2-preserved
loop-number-2-preserved c =
    let first = c.args.first.now in
    let second = c.args.second.now in
    let all = c.args.first.now ++ c.args.second.now in
    let n = c.loop-number-2.number in
    let f = c.index-second-number.result in
    let longer = sym (behind first second n f c.loop-number-2-test.true c.index-second-number.is) in
    record {
      keys = subst (λ (l : List Feature). AreKeys l c.keep_place-in-loop-number-2.new.keys.keys) longer (c.in_ok-keep_place-2.ensures.keys (first ++ take n second) c.loop-number-2.invariant.keys);
      places = subst (λ (l : List Feature). KeepsAt all l c.keep_place-in-loop-number-2.new.places.items) longer
          (c.in_ok-keep_place-2.ensures.places (first ++ take n second) all c.loop-number-2.invariant.keys (in_second first second n f c.loop-number-2-test.true c.index-second-number.is) c.loop-number-2.invariant.places);
    }
