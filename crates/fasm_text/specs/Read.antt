-- What clauses see of what was read of a line.
use Rattle.std.specs.Prelude.{ℕ, List}
use Rattle.fasm_text.specs.declared.field.Field.{Field}
use Rattle.fasm_text.specs.declared.line.Given.{Given}
use Rattle.fasm_text.specs.Fields.{IsField}
use Rattle.fasm_text.specs.Lines.{Giving, HasOneWord}
use Rattle.fasm_text.specs.Values.{bits_of}

abbrev pub giving_of : Given → Giving
giving_of r = record { name = r.field.name.now; lo = r.field.range.lo; hi = r.field.range.hi; bits = bits_of r.value }

-- the one word of the text is this field
abbrev pub IsFieldOf : List ℕ → Field → Type 0
IsFieldOf text f = (word : List ℕ) × HasOneWord text word × IsField word f.name.now f.range.lo f.range.hi
