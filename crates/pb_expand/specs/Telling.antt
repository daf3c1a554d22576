-- How the refusals of block types are printed: number, name and fields, each behind a space.
use Rattle.std.specs.Prelude.{ℕ, Bool, true, false, List, ◌++◌, codes}
use Rattle.pb_expand.specs.declared.error.ExpandError.{ExpandError}
use Rattle.pb_expand.specs.declared.error.ExpandError.TheVariants.{NoSuchPin, Width, WideMux, TooMany, OutOfMemory}

abbrev pub expand_text : ExpandError → List ℕ
expand_text (NoSuchPin inter) = codes "21 NoSuchPin " ++ inter
expand_text (Width inter) = codes "22 Width " ++ inter
expand_text (WideMux inter) = codes "23 WideMux " ++ inter
expand_text TooMany = codes "24 TooMany"
expand_text OutOfMemory = codes "memory"

abbrev pub is_want_of_memory : ExpandError → Bool
is_want_of_memory OutOfMemory = true
is_want_of_memory _ = false
