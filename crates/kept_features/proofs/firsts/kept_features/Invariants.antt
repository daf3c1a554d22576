use Rattle.std.proofs.Common.{◌++◌, map, take}
use Rattle.kept_features.specs.Firsts.{KeepsFirsts}
use Rattle.kept_features.specs.Keys.{AreKeys}
use Rattle.kept_features.proofs.firsts.kept_features.Given as goal

abbrev pub invariant-loop-feature : goal.invariant-loop-feature
invariant-loop-feature l = record {
  keys : AreKeys (take l.feature-index l.first) l.keys.keys;
  kept : KeepsFirsts (take l.feature-index l.first) (map (λ f. f.now) l.kept.items);
}

abbrev pub invariant-loop-feature-2 : goal.invariant-loop-feature-2
invariant-loop-feature-2 l = record {
  keys : AreKeys (l.first ++ take l.feature-index l.second) l.keys.keys;
  kept : KeepsFirsts (l.first ++ take l.feature-index l.second) (map (λ f. f.now) l.kept.items);
}
