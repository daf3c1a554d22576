-- How refusals of routing graph files are printed: number, name and fields, each behind a space.
use Rattle.std.specs.Prelude.{ℕ, Bool, true, false, List, ◌++◌, codes}
use Rattle.std.specs.Fmt.{decimal}
use Rattle.tell.specs.Fields.{place_text}
use Rattle.rr_files.specs.declared.error.RrLimit.{RrLimit}
use Rattle.rr_files.specs.declared.error.RrLimit.TheVariants.{Capacity}
use Rattle.rr_files.specs.declared.error.RrError.{RrError}
use Rattle.rr_files.specs.declared.error.RrError.TheVariants.{Broken, Deep, NotUtf8, Limit, BadNode, BadEdge, SwitchKind, UnknownBlock, UnknownPin, NodeWithoutPin, BadGrid, Layer, BadItem, OutOfMemory}

abbrev pub limit_text : RrLimit → List ℕ
limit_text Capacity = codes "capacity"

abbrev pub rr_text : RrError → List ℕ
rr_text (Broken place) = codes "1 Broken " ++ place_text place
rr_text Deep = codes "2 Deep"
rr_text NotUtf8 = codes "3 NotUtf8"
rr_text (Limit which) = codes "30 Limit " ++ limit_text which
rr_text (BadNode id) = codes "31 BadNode " ++ decimal id
rr_text (BadEdge index) = codes "32 BadEdge " ++ decimal index
rr_text (SwitchKind id) = codes "33 SwitchKind " ++ decimal id
rr_text (UnknownBlock id) = codes "34 UnknownBlock " ++ decimal id
rr_text (UnknownPin text) = codes "35 UnknownPin " ++ text
rr_text (NodeWithoutPin id) = codes "36 NodeWithoutPin " ++ decimal id
rr_text (BadGrid x y) = codes "37 BadGrid " ++ (decimal x ++ (codes " " ++ decimal y))
rr_text Layer = codes "38 Layer"
rr_text (BadItem place) = codes "39 BadItem " ++ place_text place
rr_text OutOfMemory = codes "memory"

abbrev pub is_want_of_memory : RrError → Bool
is_want_of_memory OutOfMemory = true
is_want_of_memory _ = false
