-- Where physical lines are UTF-8, so is the text of their line.
use Rattle.std.proofs.Common.{◌≡◌, ◌<◌, inl, inr, ℕ, Bool, true, List, [], ◌∷◌, ◌++◌, length, get_or, length-append, sym, ap, subst, arith}
use Rattle.std.specs.Prelude.{IsUtf8}
use Rattle.std.specs.List.{All}
use Rattle.std.proofs.lemmas.List.Elements.{All-head, All-tail}
use Rattle.std.proofs.lemmas.Str.{IsUtf8-nil, IsUtf8-append, IsUtf8-take, IsCharBoundary-before_ascii}
use Rattle.blif_lines.specs.Physical.{Piece, IsPiece, IsBeforeComment, IsLeft, following}
use Rattle.blif_lines.specs.Lines.{LineSaid, IsOneLine, IsNextLine, text_of}
use Rattle.blif_lines.proofs.Wording.{at_seam, front_is}

-- what stands in front of an ASCII byte of a text is UTF-8
before_ascii : (text front rest : List ℕ) (b : ℕ) → b < 128 → text ≡ front ++ b ∷ rest → IsUtf8 text → IsUtf8 front
before_ascii text front rest b low spelled utf8 =
    let at : get_or text (length front) 0 ≡ b = subst (λ t. get_or t (length front) 0 ≡ b) (sym spelled) (at_seam front rest b) in
    let cut = IsCharBoundary-before_ascii text (length front) (omega (arith, ap length spelled, length-append front (b ∷ rest))) (omega (arith, at, low)) in
    subst IsUtf8 (front_is text front (b ∷ rest) spelled) (IsUtf8-take text (length front) utf8 cut)

said_utf8 : (line said : List ℕ) → IsBeforeComment line said → IsUtf8 line → IsUtf8 said
said_utf8 line said (inl whole) utf8 = subst IsUtf8 (sym whole.1) utf8
said_utf8 line said (inr cut) utf8 = before_ascii line said cut.0 35 (omega arith) cut.1.spelled utf8

left_utf8 : (said text : List ℕ) (joins : Bool) → IsLeft said text joins → IsUtf8 said → IsUtf8 text
left_utf8 said text joins (inl joined) utf8 = before_ascii said text [] 92 (omega arith) joined.1 utf8
left_utf8 said text joins (inr ended) utf8 = subst IsUtf8 ended.1 utf8

piece_utf8 : (number : ℕ) (line : List ℕ) (p : Piece) → IsPiece number line p → IsUtf8 p.line → IsUtf8 p.text
piece_utf8 number line p is utf8 =
    left_utf8 is.said p.text p.joins is.left (said_utf8 line is.said is.before_comment (subst IsUtf8 is.line_is utf8))

pieces_utf8 : (number : ℕ) (physical : List (List ℕ)) (pieces : List Piece) (next : ℕ) (rest : List (List ℕ)) → IsOneLine number physical pieces next rest →
    All (λ p. IsUtf8 p.line) pieces → IsUtf8 (text_of pieces)
pieces_utf8 number [] pieces next rest one all = absurd one
pieces_utf8 number (line ∷ later) [] next rest one all = absurd one
pieces_utf8 number (line ∷ later) (p ∷ pieces) next rest (is, inl ends) all =
    let none : [] ≡ pieces = sym ends.1 in
    IsUtf8-append p.text (text_of pieces) (piece_utf8 number line p is (All-head (λ q. IsUtf8 q.line) p pieces all)) (subst (λ ps. IsUtf8 (text_of ps)) none IsUtf8-nil)
pieces_utf8 number (line ∷ later) (p ∷ pieces) next rest (is, inr on) all =
    IsUtf8-append p.text (text_of pieces) (piece_utf8 number line p is (All-head (λ q. IsUtf8 q.line) p pieces all))
    (pieces_utf8 (following number) later pieces next rest on.1 (All-tail (λ q. IsUtf8 q.line) p pieces all))

pub line_utf8 : (number next : ℕ) (physical rest : List (List ℕ)) (l : LineSaid) → IsNextLine number physical l next rest → l.is_utf8 ≡ true → IsUtf8 l.text
line_utf8 number next physical rest l is utf8 =
    subst IsUtf8 (sym is.is.text) (pieces_utf8 number physical is.pieces next rest is.one (is.is.utf8.0 utf8))
