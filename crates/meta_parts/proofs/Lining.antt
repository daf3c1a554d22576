-- The lines of a text that aren't empty, found one by one.
use Rattle.std.proofs.Common.{◌≡◌, ◌+◌, ◌++◌, ℕ, min, Bool, true, false, List, [], ◌∷◌, map, append_assoc, append-nil, refl, sym, ap, ◌∙◌, subst, arith, if◌then◌else◌}
use Rattle.std.specs.Str.Lines.{lines}
use Rattle.std.proofs.lemmas.List.{map-append}
use Rattle.meta_parts.specs.declared.by_line.Line.{Line}
use Rattle.meta_parts.specs.Lines.{LineAt, is_said, said_from, said_lines}
use Rattle.meta_parts.specs.Seen.{seen}

-- the lines that were found complete those of the rest, whose first has this number
pub record IsAlong (text rest : List ℕ) (found : List Line) (number : ℕ) : Type 0 where
  pub n : ℕ
  pub counted : number ≡ min n 4294967295
  pub completes : map seen found ++ said_from n (lines rest) ≡ said_lines text

pub along_start : (text : List ℕ) → IsAlong text text [] 1
along_start text = record { n = 1; counted = refl; completes = refl }

step : (said : Bool) (n : ℕ) (line : List ℕ) (more : List (List ℕ)) → is_said line ≡ said →
    said_from n (line ∷ more) ≡ (if said then record { number = min n 4294967295; text = line } ∷ said_from (n + 1) more else said_from (n + 1) more)
step said n line more is = ap (λ b. if b then record { number = min n 4294967295; text = line } ∷ said_from (n + 1) more else said_from (n + 1) more) is

pub along_empty : (text rest line behind : List ℕ) (found : List Line) (number next : ℕ) → IsAlong text rest found number →
    lines rest ≡ line ∷ lines behind → is_said line ≡ false → next ≡ min (number + 1) 4294967295 → IsAlong text behind found next
along_empty text rest line behind found number next a is empty next_is = record {
  n = a.n + 1;
  counted = omega (arith, a.counted, next_is);
  completes = ap (λ l. map seen found ++ l) (sym (ap (said_from a.n) is ∙ step false a.n line (lines behind) empty)) ∙ a.completes;
}

pub along_said : (text rest line behind : List ℕ) (found : List Line) (here : Line) (number next : ℕ) → IsAlong text rest found number →
    lines rest ≡ line ∷ lines behind → is_said line ≡ true → here.number ≡ number → here.text.now ≡ line → next ≡ min (number + 1) 4294967295 →
    IsAlong text behind (found ++ here ∷ []) next
along_said text rest line behind found here number next a is said numbered is_line next_is = record {
  n = a.n + 1;
  counted = omega (arith, a.counted, next_is);
  completes =
      (let here_is : seen here ≡ record { number = min a.n 4294967295; text = line } = made here.number (min a.n 4294967295) here.text.now line (numbered ∙ a.counted) is_line in
      ap (λ l. l ++ said_from (a.n + 1) (lines behind)) (map-append seen found (here ∷ []))
      ∙ (append_assoc (map seen found) (seen here ∷ []) (said_from (a.n + 1) (lines behind))
      ∙ (ap (λ l. map seen found ++ l ∷ said_from (a.n + 1) (lines behind)) here_is
      ∙ (ap (λ l. map seen found ++ l) (sym (ap (said_from a.n) is ∙ step true a.n line (lines behind) said)) ∙ a.completes))));
}
  where
    line_at : ℕ → List ℕ → LineAt
    line_at m s = record { number = m; text = s }

    made : (m k : ℕ) (s t : List ℕ) → m ≡ k → s ≡ t → line_at m s ≡ line_at k t
    made m k s t e f = cc

pub along_ends : (text rest : List ℕ) (found : List Line) (number : ℕ) → IsAlong text rest found number → rest ≡ [] → map seen found ≡ said_lines text
along_ends text rest found number a none =
    sym (append-nil (map seen found)) ∙ (ap (λ l. map seen found ++ said_from a.n (lines l)) (sym none) ∙ a.completes)
