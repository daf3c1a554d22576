-- Words that are joined by blanks, and lines that end at line feeds.
use Rattle.std.proofs.Common.{◌≡◌, ◌<◌, ◌-◌, ◌==◌, ◌||◌, ℕ, Bool, true, false, not, if◌then◌else◌, List, [], ◌∷◌, ◌++◌, length, take, get_or, map, refl, ap, ◌∙◌, arith, inl, inr, append_assoc, append-nil}
use Rattle.std.specs.List.{AllPass, All, flat_map, slice_split}
use Rattle.std.specs.Str.Lines.{lines, lines_of_parts, strip_carriage_return}
use Rattle.std.proofs.lemmas.Bool.Decides.{nat_tests}
use Rattle.std.proofs.lemmas.List.Elements.{All-append, All-cons, All-nil}
use Rattle.std.proofs.lemmas.List.Splits.{slice_split_none, slice_split_at, length-slice_split}
use Rattle.vtr_base.specs.Lists.{Has}
use Rattle.vtr_base.specs.Spans.{is_word_byte}
use Rattle.tree_lines.specs.Words.{words_of}

all_imply : (p q : ℕ → Bool) (xs : List ℕ) → ((x : ℕ) → p x ≡ true → q x ≡ true) → AllPass p xs → AllPass q xs
all_imply p q xs to all k d inside = to (get_or xs k d) (all k d inside)

no_blank : (word : List ℕ) → AllPass is_word_byte word → All (λ b. (b == 32) ≡ false) word
no_blank word dark = λ k d inside. by (get_or word k d) (get_or word k d == 32) refl (dark k d inside)
  where
    by : (x : ℕ) (b : Bool) → (x == 32) ≡ b → is_word_byte x ≡ true → b ≡ false
    by x false e passes = refl
    by x true e passes = grind (arith, nat_tests)

-- dark words come back from the line that joins them
pub words_back : (first : List ℕ) (words : List (List ℕ)) → AllPass is_word_byte first → ((w : List ℕ) → Has words w → AllPass is_word_byte w) →
    words_of (first ++ flat_map (λ (word : List ℕ). 32 ∷ word) words) ≡ first ∷ words
words_back first [] dark each = ap words_of (append-nil first) ∙ slice_split_none (λ b. b == 32) first (no_blank first dark)
words_back first (w ∷ words) dark each =
    slice_split_at (λ b. b == 32) first 32 (w ++ flat_map (λ (word : List ℕ). 32 ∷ word) words) (no_blank first dark) refl ∙
    ap (λ l. first ∷ l) (words_back w words (each w (inl refl)) (λ v has. each v (inr has)))

line_byte : (x : ℕ) → is_word_byte x ≡ true → not ((x == 10) || (x == 13)) ≡ true
line_byte x dark = grind (arith, nat_tests)

pub line_bytes : (first : List ℕ) (words : List (List ℕ)) → AllPass is_word_byte first → ((w : List ℕ) → Has words w → AllPass is_word_byte w) →
    AllPass (λ x. not ((x == 10) || (x == 13))) (first ++ flat_map (λ (word : List ℕ). 32 ∷ word) words)
line_bytes first words dark each =
    All-append (λ x. not ((x == 10) || (x == 13)) ≡ true) first (flat_map (λ (word : List ℕ). 32 ∷ word) words)
    (all_imply is_word_byte (λ x. not ((x == 10) || (x == 13))) first line_byte dark) (rest words each)
  where
    rest : (words : List (List ℕ)) → ((w : List ℕ) → Has words w → AllPass is_word_byte w) → AllPass (λ x. not ((x == 10) || (x == 13))) (flat_map (λ (word : List ℕ). 32 ∷ word) words)
    rest [] each = All-nil (λ x. not ((x == 10) || (x == 13)) ≡ true)
    rest (w ∷ words) each =
        All-append (λ x. not ((x == 10) || (x == 13)) ≡ true) (32 ∷ w) (flat_map (λ (word : List ℕ). 32 ∷ word) words)
        (All-cons (λ x. not ((x == 10) || (x == 13)) ≡ true) 32 w refl (all_imply is_word_byte (λ x. not ((x == 10) || (x == 13))) w line_byte (each w (inl refl))))
        (rest words (λ v has. each v (inr has)))

not_feed : (line : List ℕ) → AllPass (λ x. not ((x == 10) || (x == 13))) line → All (λ b. (b == 10) ≡ false) line
not_feed line all = λ k d inside. by (get_or line k d == 10) (get_or line k d == 13) (all k d inside)
  where
    by : (b c : Bool) → not (b || c) ≡ true → b ≡ false
    by true c e = cc
    by false c e = refl

no_return : (line : List ℕ) → AllPass (λ x. not ((x == 10) || (x == 13))) line → strip_carriage_return line ≡ line
no_return [] all = refl
no_return (x ∷ xs) all = ap (λ b. if b then take (length (x ∷ xs) - 1) (x ∷ xs) else x ∷ xs) (last (x ∷ xs) (omega arith) all)
  where
    by : (b c : Bool) → not (b || c) ≡ true → c ≡ false
    by true c e = cc
    by false true e = cc
    by false false e = refl

    last : (line : List ℕ) → 0 < length line → AllPass (λ x. not ((x == 10) || (x == 13))) line → (get_or line (length line - 1) 0 == 13) ≡ false
    last line some all = by (get_or line (length line - 1) 0 == 10) (get_or line (length line - 1) 0 == 13) (all (length line - 1) 0 (omega arith))

parts_more : (part : List ℕ) (parts : List (List ℕ)) → 0 < length parts → lines_of_parts (part ∷ parts) ≡ strip_carriage_return part ∷ lines_of_parts parts
parts_more part [] some = absurd (omega arith)
parts_more part (next ∷ parts) some = refl

-- a line that a line feed ends comes back
pub line_back : (line rest : List ℕ) → AllPass (λ x. not ((x == 10) || (x == 13))) line → lines ((line ++ 10 ∷ []) ++ rest) ≡ line ∷ lines rest
line_back line rest all =
    let fed = λ (b : ℕ). b == 10 in
    let split = slice_split_at fed line 10 rest (not_feed line all) refl in
    ap lines (append_assoc line (10 ∷ []) rest) ∙ ap lines_of_parts split ∙
    parts_more line (slice_split fed rest) (omega (arith, length-slice_split fed rest)) ∙
    ap (λ l. l ∷ lines rest) (no_return line all)

-- each behind a blank
pub blanks_map : {X : Type 0} (f : X → List ℕ) (xs : List X) → flat_map (λ x. 32 ∷ f x) xs ≡ flat_map (λ (word : List ℕ). 32 ∷ word) (map f xs)
blanks_map f [] = refl
blanks_map f (x ∷ xs) = ap (λ l. (32 ∷ f x) ++ l) (blanks_map f xs)
