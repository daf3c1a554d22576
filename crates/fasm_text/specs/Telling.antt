-- How the refusals of FASM text are printed: number, name and the line, each behind a space.
use Rattle.std.specs.Prelude.{ℕ, Bool, true, false, List, ◌++◌, codes}
use Rattle.std.specs.Fmt.{decimal}
use Rattle.fasm_text.specs.declared.error.FasmError.{FasmError}
use Rattle.fasm_text.specs.declared.error.FasmError.TheVariants.{BadFasm, ValueWide, OutOfMemory}

abbrev pub fasm_error_text : FasmError → List ℕ
fasm_error_text (BadFasm line) = codes "106 BadFasm " ++ decimal line
fasm_error_text (ValueWide line) = codes "107 ValueWide " ++ decimal line
fasm_error_text OutOfMemory = codes "memory"

abbrev pub is_want_of_memory : FasmError → Bool
is_want_of_memory OutOfMemory = true
is_want_of_memory _ = false
