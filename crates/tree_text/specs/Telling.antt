-- How the refusals of trees are printed: number, name and the line, each behind a space.
use Rattle.std.specs.Prelude.{ℕ, Bool, true, false, List, ◌++◌, codes}
use Rattle.std.specs.Fmt.{decimal}
use Rattle.tree_text.specs.declared.error.TreeError.{TreeError}
use Rattle.tree_text.specs.declared.error.TreeError.TheVariants.{BadTree, TreeShape, OutOfMemory}

abbrev pub tree_error_text : TreeError → List ℕ
tree_error_text (BadTree line) = codes "63 BadTree " ++ decimal line
tree_error_text (TreeShape line) = codes "64 TreeShape " ++ decimal line
tree_error_text OutOfMemory = codes "memory"

abbrev pub is_want_of_memory : TreeError → Bool
is_want_of_memory OutOfMemory = true
is_want_of_memory _ = false
