-- The features of an edge (VPR's routing graph files: `metadata` of an `edge`, each with its
-- `meta`; FPGA assembly metadata: `fasm_features`).
use Rattle.std.specs.Prelude.{ℕ, Bool, List, [], Option, codes}
use Rattle.std.specs.List.{find}
use Rattle.std.specs.Option.{option_map_or}
use Rattle.std.specs.Str.{bytes_eq}
use Rattle.elem_text.specs.declared.elem.Elem.{Elem, out-Elem}
use Rattle.elem_attrs.specs.Attributes.{attr_of}
use Rattle.elem_reading.specs.Kids.{kids_under}

-- a `meta` that lists features: its name is `fasm_features`; one without a name lists nothing
abbrev pub lists_features : Elem → Bool
lists_features meta = bytes_eq (attr_of meta (codes "name")) (codes "fasm_features")

-- of all `meta` of all `metadata` of the edge, the first that lists features counts
abbrev pub features_meta : Elem → Option Elem
features_meta edge = find lists_features (kids_under edge (codes "metadata") (codes "meta"))

-- the text of that `meta` as it stands, and none where there is no such `meta`
abbrev pub edge_features : Elem → List ℕ
edge_features edge = option_map_or (λ meta. (out-Elem meta).text) (features_meta edge) []
