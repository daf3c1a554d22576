-- Lines of a file, cut at line feeds.
use Rattle.std.proofs.Common.{◌≡◌, ◌==◌, ◌<◌, ℕ, Bool, true, false, not, if◌then◌else◌, List, [], ◌∷◌, ◌++◌, Bor, map, length, refl, sym, ap, ◌∙◌, arith, append_assoc}
use Rattle.std.specs.List.{slice_split, All}
use Rattle.std.specs.Str.Lines.{lines, lines_of_parts, strip_carriage_return}
use Rattle.std.proofs.lemmas.Bool.Decides.{nat_tests}
use Rattle.std.proofs.lemmas.List.{map-append}
use Rattle.std.proofs.lemmas.List.Splits.{slice_split_none, slice_split_at, length-slice_split}
use Rattle.vtr_base.specs.Spans.{Lacks, IsCut}

none_fed : (text : List ℕ) → Lacks text 10 → All (λ b. (b == 10) ≡ false) text
none_fed text lacks = λ k d within. fails (_ == 10) (lacks k d within)
  where
    fails : (b : Bool) → not b ≡ true → b ≡ false
    fails true e = cc
    fails false e = refl

parts_more : (part : List ℕ) (parts : List (List ℕ)) → 0 < length parts → lines_of_parts (part ∷ parts) ≡ strip_carriage_return part ∷ lines_of_parts parts
parts_more part [] some = absurd (omega arith)
parts_more part (next ∷ parts) some = refl

-- a line that a line feed ends
pub line_cut : (bytes whole rest line : List ℕ) → IsCut bytes 10 whole rest → line ≡ strip_carriage_return whole → lines bytes ≡ line ∷ lines rest
line_cut bytes whole rest line cut is =
    let fed = λ (b : ℕ). b == 10 in
    let split = slice_split_at fed whole 10 rest (none_fed whole cut.lacks) refl in
    ap lines cut.spelled ∙ ap lines_of_parts split ∙
    parts_more whole (slice_split fed rest) (omega (arith, length-slice_split fed rest)) ∙
    ap (λ l. l ∷ lines rest) (sym is)

-- a line that the file's end ends
pub last_line : (bytes rest : List ℕ) → (length bytes ≡ 0 → ⊥) → Lacks bytes 10 → rest ≡ [] → lines bytes ≡ bytes ∷ lines rest
last_line bytes rest some lacks none =
    let split = slice_split_none (λ (b : ℕ). b == 10) bytes (none_fed bytes lacks) in
    ap lines_of_parts split ∙ ap (λ b. if b then [] else bytes ∷ []) (full (length bytes) some) ∙ ap (λ r. bytes ∷ lines r) (sym none)
  where
    full : (n : ℕ) → (n ≡ 0 → ⊥) → (n == 0) ≡ false
    full n h = grind (arith, nat_tests)

-- one more line is found
pub lines_more : (bytes rest behind : List ℕ) (found longer : List (Bor (List ℕ))) (line : Bor (List ℕ)) → lines bytes ≡ map (λ l. l.now) found ++ lines rest →
    lines rest ≡ line.now ∷ lines behind → longer ≡ found ++ line ∷ [] → lines bytes ≡ map (λ l. l.now) longer ++ lines behind
lines_more bytes rest behind found longer line so_far next is =
    so_far ∙ ap (λ ls. map (λ l. l.now) found ++ ls) next ∙
    sym (append_assoc (map (λ l. l.now) found) (line.now ∷ []) (lines behind)) ∙
    ap (λ ls. ls ++ lines behind) (sym (ap (map (λ l. l.now)) is ∙ map-append (λ l. l.now) found (line ∷ [])))
