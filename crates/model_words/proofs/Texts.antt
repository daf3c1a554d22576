-- Lines have no `#`, and their words are words.
use Rattle.std.proofs.Common.{◌≡◌, ◌==◌, ◌<◌, inl, inr, ℕ, zero, suc, Bool, true, false, not, List, [], ◌∷◌, ◌++◌, length, get_or, drop, length-append, refl, sym, subst, arith}
use Rattle.std.specs.Prelude.{IsUtf8}
use Rattle.std.specs.List.{All, AllPass}
use Rattle.std.specs.Str.{IsCharBoundary}
use Rattle.std.proofs.Math.Seq.{take-append_seam}
use Rattle.std.proofs.lemmas.Bool.Decides.{nat_tests}
use Rattle.std.proofs.lemmas.List.Elements.{All-nil, All-cons, All-head, All-tail, All-append}
use Rattle.std.proofs.lemmas.Str.{IsUtf8-take, IsUtf8-drop, IsCharBoundary-start, IsCharBoundary-end, IsCharBoundary-after_ascii, IsCharBoundary-before_ascii}
use Rattle.vtr_base.specs.Spans.{is_white, is_word_byte, Lacks, Stops, IsSpan}
use Rattle.blif_lines.specs.Physical.{Piece, IsPiece, IsBeforeComment, IsLeft, following}
use Rattle.blif_lines.specs.Lines.{LineSaid, IsOneLine, IsNextLine, text_of}

-- fronts and backs of lists

pub front_all : {X : Type 0} (P : X → Type 0) (xs ys : List X) → All P (xs ++ ys) → All P xs
front_all P [] ys all = All-nil P
front_all P (x ∷ xs) ys all = All-cons P x xs (All-head P x (xs ++ ys) all) (front_all P xs ys (All-tail P x (xs ++ ys) all))

pub back_all : {X : Type 0} (P : X → Type 0) (xs ys : List X) → All P (xs ++ ys) → All P ys
back_all P [] ys all = all
back_all P (x ∷ xs) ys all = back_all P xs ys (All-tail P x (xs ++ ys) all)

-- no `#` is left

abbrev NoHash : ℕ → Type 0
NoHash b = not (b == 35) ≡ true

said_lacks : (line said : List ℕ) → IsBeforeComment line said → Lacks said 35
said_lacks line said (inl whole) = subst (λ t. Lacks t 35) (sym whole.1) whole.0
said_lacks line said (inr cut) = cut.1.lacks

left_lacks : (said text : List ℕ) (joins : Bool) → IsLeft said text joins → Lacks said 35 → Lacks text 35
left_lacks said text joins (inl joined) lacks = front_all NoHash text (92 ∷ []) (subst (λ t. Lacks t 35) joined.1 lacks)
left_lacks said text joins (inr ended) lacks = subst (λ t. Lacks t 35) ended.1 lacks

piece_lacks : (number : ℕ) (line : List ℕ) (p : Piece) → IsPiece number line p → Lacks p.text 35
piece_lacks number line p is = left_lacks is.said p.text p.joins is.left (said_lacks line is.said is.before_comment)

pieces_lack : (number : ℕ) (physical : List (List ℕ)) (pieces : List Piece) (next : ℕ) (rest : List (List ℕ)) → IsOneLine number physical pieces next rest → Lacks (text_of pieces) 35
pieces_lack number [] pieces next rest one = absurd one
pieces_lack number (line ∷ later) [] next rest one = absurd one
pieces_lack number (line ∷ later) (p ∷ pieces) next rest (is, inl ends) =
    let none : [] ≡ pieces = sym ends.1 in
    All-append NoHash p.text (text_of pieces) (piece_lacks number line p is) (subst (λ ps. Lacks (text_of ps) 35) none (All-nil NoHash))
pieces_lack number (line ∷ later) (p ∷ pieces) next rest (is, inr on) =
    All-append NoHash p.text (text_of pieces) (piece_lacks number line p is) (pieces_lack (following number) later pieces next rest on.1)

pub line_lacks : (number next : ℕ) (physical rest : List (List ℕ)) (l : LineSaid) → IsNextLine number physical l next rest → Lacks l.text 35
line_lacks number next physical rest l is = subst (λ t. Lacks t 35) (sym is.is.text) (pieces_lack number physical is.pieces next rest is.one)

-- parts of a text at white space are UTF-8

white_low : (b : ℕ) → is_white b ≡ true → b < 128
white_low b w = grind (arith, nat_tests)

bright_low : (b : ℕ) → is_word_byte b ≡ false → b < 128
bright_low b w = grind (arith, nat_tests)

at_seam : (front rest : List ℕ) (b : ℕ) → get_or (front ++ b ∷ rest) (length front) 0 ≡ b
at_seam [] rest b = refl
at_seam (f ∷ front) rest b = at_seam front rest b

drop_seam : (front rest : List ℕ) → drop (length front) (front ++ rest) ≡ rest
drop_seam [] rest = refl
drop_seam (f ∷ front) rest = drop_seam front rest

last_white : (gap rest : List ℕ) (k : ℕ) → AllPass is_white gap → k < length gap → get_or (gap ++ rest) k 0 < 128
last_white [] rest k all within = absurd (omega arith)
last_white (g ∷ gap) rest zero all within = white_low g (All-head (λ b. is_white b ≡ true) g gap all)
last_white (g ∷ gap) rest (suc k) all within = last_white gap rest k (All-tail (λ b. is_white b ≡ true) g gap all) (omega arith)

cut_behind_white : (gap rest : List ℕ) → IsUtf8 (gap ++ rest) → AllPass is_white gap → IsCharBoundary (gap ++ rest) (length gap)
cut_behind_white [] rest utf8 all = IsCharBoundary-start rest utf8
cut_behind_white (g ∷ gap) rest utf8 all =
    subst (IsCharBoundary (g ∷ gap ++ rest)) (omega arith)
    (IsCharBoundary-after_ascii (g ∷ gap ++ rest) (length gap) utf8 (omega (arith, length-append gap rest)) (last_white (g ∷ gap) rest (length gap) all (omega arith)))

pub behind_utf8 : (text gap behind : List ℕ) → IsSpan is_white text gap behind → IsUtf8 text → IsUtf8 behind
behind_utf8 text gap behind s utf8 =
    let whole : IsUtf8 (gap ++ behind) = subst IsUtf8 s.spelled utf8 in
    subst IsUtf8 (drop_seam gap behind) (IsUtf8-drop (gap ++ behind) (length gap) whole (cut_behind_white gap behind whole s.all))

cut_behind_word : (word rest : List ℕ) → Stops is_word_byte rest → IsCharBoundary (word ++ rest) (length word)
cut_behind_word word [] stops =
    subst (IsCharBoundary (word ++ [])) (omega (arith, length-append word [])) (IsCharBoundary-end (word ++ []))
cut_behind_word word (b ∷ rest) stops =
    IsCharBoundary-before_ascii (word ++ b ∷ rest) (length word) (omega (arith, length-append word (b ∷ rest))) (omega (arith, at_seam word rest b, bright_low b stops))

pub word_utf8 : (behind word rest : List ℕ) → IsSpan is_word_byte behind word rest → IsUtf8 behind → IsUtf8 word
word_utf8 behind word rest s utf8 =
    let whole : IsUtf8 (word ++ rest) = subst IsUtf8 s.spelled utf8 in
    subst IsUtf8 (take-append_seam word rest) (IsUtf8-take (word ++ rest) (length word) whole (cut_behind_word word rest s.stops))

pub rest_utf8 : (behind word rest : List ℕ) → IsSpan is_word_byte behind word rest → IsUtf8 behind → IsUtf8 rest
rest_utf8 behind word rest s utf8 =
    let whole : IsUtf8 (word ++ rest) = subst IsUtf8 s.spelled utf8 in
    subst IsUtf8 (drop_seam word rest) (IsUtf8-drop (word ++ rest) (length word) whole (cut_behind_word word rest s.stops))
