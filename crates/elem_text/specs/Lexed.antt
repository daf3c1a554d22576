-- The piece that a piece read stands for.
use Rattle.std.specs.Prelude.{IsUtf8}
use Rattle.vtr_base.specs.declared.place.Place.{Place}
use Rattle.elem_text.specs.declared.lex.Lex.{Lex}
use Rattle.elem_text.specs.declared.lex.Lex.TheVariants.{Opens, Hollow, Closes, Run, Skip}
use Rattle.elem_text.specs.Tree.{Piece, opens, closes, hollow, run, skip}

abbrev pub lexed : Place → Lex → Piece
lexed at (Opens name attrs) = opens name.now attrs at
lexed at (Hollow name attrs) = hollow name.now attrs at
lexed at (Closes name) = closes name.now
lexed at (Run raw) = run raw.now
lexed at Skip = skip

abbrev pub IsUtf8Lex : Lex → Type 0
IsUtf8Lex (Opens name attrs) = IsUtf8 name.now
IsUtf8Lex (Hollow name attrs) = IsUtf8 name.now
IsUtf8Lex (Closes name) = Unit {0}
IsUtf8Lex (Run raw) = IsUtf8 raw.now
IsUtf8Lex Skip = Unit {0}
