-- What clauses see of a line, and of the place up to which a file is read.
use Rattle.std.specs.Prelude.{◌≡◌, ◌↔◌, ℕ, List, ◌∷◌, IsTrue, IsUtf8, MatchOption}
use Rattle.std.specs.List.{AllPass, All}
use Rattle.std.specs.Str.Lines.{lines}
use Rattle.vtr_base.specs.Spans.{is_white}
use Rattle.blif_lines.specs.declared.joined.Joining.{Joining}
use Rattle.blif_lines.specs.declared.line.Cursor.{Cursor}
use Rattle.blif_lines.specs.declared.line.Line.{Line}
use Rattle.blif_lines.specs.declared.line.LineText.{LineText}
use Rattle.blif_lines.specs.declared.line.LineText.TheVariants.{Lent, Joined}
use Rattle.blif_lines.specs.declared.physical.Physical.{Physical}
use Rattle.blif_lines.specs.Physical.{Piece, IsPiece, following}
use Rattle.blif_lines.specs.Lines.{LineSaid, IsNextLine, AreLinesFrom, text_of, HasWordAt}

abbrev pub text_seen : LineText → List ℕ
text_seen (Lent text) = text.now
text_seen (Joined text) = text.items

abbrev pub seen : Line → LineSaid
seen l = record { text = text_seen l.text; is_utf8 = l.is_utf8; place = l.place }

abbrev pub piece_seen : Physical → Piece
piece_seen p = record { number = p.number; line = p.line.now; text = p.text.now; joins = p.joins }

-- the physical lines that are still to be read
abbrev pub still : Cursor → List (List ℕ)
still c = lines c.rest.now

-- the piece stands at the one place, and what follows it begins at the other
pub record StepsTo (at : Cursor) (p : Piece) (behind : Cursor) : Type 0 where
  pub line : List ℕ
  pub is_piece : IsPiece at.number line p
  pub first : still at ≡ line ∷ still behind
  pub counted : behind.number ≡ following at.number

-- physical lines that are put together so far
pub record Holds (pieces : List Piece) (j : Joining) : Type 0 where
  pub text : j.text.items ≡ text_of pieces
  pub utf8 : IsTrue j.is_utf8 ↔ All (λ p. IsUtf8 p.line) pieces
  pub place : MatchOption j.place (AllPass is_white (text_of pieces)) (HasWordAt pieces)

-- the line stands at the one place, and what follows it begins at the other
abbrev pub StandsAt : Cursor → LineSaid → Cursor → Type 0
StandsAt at l behind = IsNextLine at.number (still at) l behind.number (still behind)

-- these are all lines from the place on
abbrev pub FollowFrom : Cursor → List LineSaid → Type 0
FollowFrom at ls = AreLinesFrom at.number (still at) ls
