-- The texts of lines are no longer than the file.
use Rattle.std.proofs.Common.{◌≡◌, ◌==◌, ◌≤◌, ◌+◌, ◌-◌, inl, inr, ℕ, Bool, true, false, cond, if◌then◌else◌, List, [], ◌∷◌, length, take, length-append, length-take, ap, arith}
use Rattle.std.specs.Prelude.{slice_index}
use Rattle.std.specs.List.{sum_by, slice_split, onto_first}
use Rattle.std.specs.Str.Lines.{lines, lines_of_parts, strip_carriage_return}
use Rattle.std.proofs.lemmas.List.Sums.{sum_by-cons}
use Rattle.blif_lines.specs.Physical.{Piece, IsPiece, IsBeforeComment, IsLeft, following}
use Rattle.blif_lines.specs.Lines.{LineSaid, IsOneLine, AreLinesFrom, text_of}

abbrev total : List (List ℕ) → ℕ
total parts = sum_by (λ (p : List ℕ). length p) parts

total_cons : (p : List ℕ) (parts : List (List ℕ)) → total (p ∷ parts) ≡ length p + total parts
total_cons p parts = sum_by-cons (λ (p : List ℕ). length p) p parts

onto_total : (b : ℕ) (parts : List (List ℕ)) → total (onto_first b parts) ≤ 1 + total parts
onto_total b [] = omega (arith, total_cons (b ∷ []) [])
onto_total b (p ∷ parts) = omega (arith, total_cons p parts, total_cons (b ∷ p) parts)

split_total : (p : ℕ → Bool) (bytes : List ℕ) → total (slice_split p bytes) ≤ length bytes
split_total p [] = omega (arith, total_cons [] [])
split_total p (b ∷ bytes) = by (p b) (split_total p bytes)
  where
    by : (is : Bool) → total (slice_split p bytes) ≤ length bytes → total (cond is ([] ∷ slice_split p bytes) (onto_first b (slice_split p bytes))) ≤ length (b ∷ bytes)
    by true rest = omega (arith, rest, total_cons [] (slice_split p bytes))
    by false rest = omega (arith, rest, onto_total b (slice_split p bytes))

strip_less : (l : List ℕ) → length (strip_carriage_return l) ≤ length l
strip_less l = by (slice_index l (length l - 1) == 13)
  where
    by : (is : Bool) → length (if is then take (length l - 1) l else l) ≤ length l
    by true = omega (arith, length-take (length l - 1) l)
    by false = omega arith

lone_total : (p : List ℕ) → total (lines_of_parts (p ∷ [])) ≤ length p
lone_total p = by (length p == 0)
  where
    by : (is : Bool) → total (if is then [] else p ∷ []) ≤ length p
    by true = omega arith
    by false = omega (arith, total_cons p [])

parts_total : (parts : List (List ℕ)) → total (lines_of_parts parts) ≤ total parts
parts_total [] = omega arith
parts_total (p ∷ []) = omega (arith, lone_total p, total_cons p [])
parts_total (p ∷ q ∷ parts) =
    omega (arith, parts_total (q ∷ parts), strip_less p, total_cons p (q ∷ parts), total_cons (strip_carriage_return p) (lines_of_parts (q ∷ parts)))

lines_total : (bytes : List ℕ) → total (lines bytes) ≤ length bytes
lines_total bytes = omega (arith, parts_total (slice_split (λ b. b == 10) bytes), split_total (λ b. b == 10) bytes)

said_less : (line said : List ℕ) → IsBeforeComment line said → length said ≤ length line
said_less line said (inl whole) = omega (arith, ap length whole.1)
said_less line said (inr cut) = omega (arith, ap length cut.1.spelled, length-append said (35 ∷ cut.0))

left_less : (said text : List ℕ) (joins : Bool) → IsLeft said text joins → length text ≤ length said
left_less said text joins (inl joined) = omega (arith, ap length joined.1, length-append text (92 ∷ []))
left_less said text joins (inr ended) = omega (arith, ap length ended.1)

piece_less : (number : ℕ) (line : List ℕ) (p : Piece) → IsPiece number line p → length p.text ≤ length line
piece_less number line p is = omega (arith, left_less is.said p.text p.joins is.left, said_less line is.said is.before_comment)

one_total : (number : ℕ) (physical : List (List ℕ)) (pieces : List Piece) (next : ℕ) (rest : List (List ℕ)) → IsOneLine number physical pieces next rest →
    length (text_of pieces) + total rest ≤ total physical
one_total number [] pieces next rest one = absurd one
one_total number (line ∷ later) [] next rest one = absurd one
one_total number (line ∷ later) (p ∷ pieces) next rest (is, inl ends) =
    let none : length (text_of pieces) ≡ 0 = ap (λ ps. length (text_of ps)) ends.1 in
    omega (arith, piece_less number line p is, none, length-append p.text (text_of pieces), ap total ends.3, total_cons line later)
one_total number (line ∷ later) (p ∷ pieces) next rest (is, inr on) =
    omega (arith, piece_less number line p is, one_total (following number) later pieces next rest on.1, length-append p.text (text_of pieces), total_cons line later)

abbrev texts_total : List LineSaid → ℕ
texts_total ls = sum_by (λ (l : LineSaid). length l.text) ls

lines_from_total : (number : ℕ) (physical : List (List ℕ)) (ls : List LineSaid) → AreLinesFrom number physical ls → texts_total ls ≤ total physical
lines_from_total number physical [] are = omega arith
lines_from_total number physical (l ∷ ls) are =
    omega (arith, one_total number physical are.2.pieces are.0 are.1 are.2.one, ap length are.2.is.text, lines_from_total are.0 are.1 ls are.3, sum_by-cons (λ (l : LineSaid). length l.text) l ls)

pub few_bytes : (bytes : List ℕ) (ls : List LineSaid) → AreLinesFrom 1 (lines bytes) ls → texts_total ls ≤ length bytes
few_bytes bytes ls are = omega (arith, lines_from_total 1 (lines bytes) ls are, lines_total bytes)
