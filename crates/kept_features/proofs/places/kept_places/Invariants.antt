use Rattle.std.proofs.Common.{◌++◌, take}
use Rattle.kept_features.specs.Keys.{AreKeys}
use Rattle.kept_features.specs.Places.{KeepsAt}
use Rattle.kept_features.proofs.places.kept_places.Given as goal

abbrev pub invariant-loop-number : goal.invariant-loop-number
invariant-loop-number l = record {
  keys : AreKeys (take l.number l.first) l.keys.keys;
  places : KeepsAt (l.first ++ l.second) (take l.number l.first) l.places.items;
}

abbrev pub invariant-loop-number-2 : goal.invariant-loop-number-2
invariant-loop-number-2 l = record {
  keys : AreKeys (l.first ++ take l.number l.second) l.keys.keys;
  places : KeepsAt (l.first ++ l.second) (l.first ++ take l.number l.second) l.places.items;
}
