-- How the refusals of lists of atoms are printed: number, name and the place of the entry, each
-- behind a space.
use Rattle.std.specs.Prelude.{ℕ, Bool, true, false, List, ◌++◌, codes}
use Rattle.std.specs.Fmt.{decimal}
use Rattle.atom_lists.specs.declared.error.TaskError.{TaskError}
use Rattle.atom_lists.specs.declared.error.TaskError.TheVariants.{NoSuchAtom, Twice, TooManyAtoms, OutOfMemory}

abbrev pub task_error_text : TaskError → List ℕ
task_error_text (NoSuchAtom place) = codes "61 NoSuchAtom " ++ decimal place
task_error_text (Twice place) = codes "62 Twice " ++ decimal place
task_error_text TooManyAtoms = codes "65 TooManyAtoms"
task_error_text OutOfMemory = codes "memory"

abbrev pub is_want_of_memory : TaskError → Bool
is_want_of_memory OutOfMemory = true
is_want_of_memory _ = false
