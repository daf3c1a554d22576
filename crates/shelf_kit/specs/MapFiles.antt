-- The files that a map from names to bytes holds.
use Rattle.std.specs.Prelude.{ℕ, map, String, string_bytes, Vec, vec_items}
use Rattle.std.specs.BTreeMap.{BTreeMap}
use Rattle.std.specs.FinMap.{from_entries}
use Rattle.vtr_base.specs.Outside.{Files}

-- the finite map from the bytes of each name to the bytes of its file
abbrev pub files_of : {Y Z : Type 0} → BTreeMap (String Y) (Vec ℕ Z) → Files
files_of m = from_entries (map (λ e. (string_bytes e.0, vec_items e.1)) m.entries)
