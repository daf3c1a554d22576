-- The loop over the lines of a text: one more line, the line at which it stops, and its end.
use Rattle.std.proofs.Common.{◌≡◌, ◌<◌, ◌≤◌, ◌+◌, ◌⊎◌, inl, inr, ℕ, zero, suc, List, [], ◌∷◌, ◌++◌, length, map, take, drop, get_or, refl, sym, ap, ◌∙◌, subst, arith}
use Rattle.std.proofs.lemmas.List.{map-append}
use Rattle.meta_parts.specs.declared.by_line.Line.{Line}
use Rattle.meta_parts.specs.Lines.{LineAt, said_lines}
use Rattle.meta_parts.specs.Seen.{seen}
use Rattle.meta_lines.specs.declared.error.LineError.{LineError}
use Rattle.meta_lines.specs.declared.error.LineError.TheVariants.{OutOfMemory}
use Rattle.meta_lines.specs.Readings.{LinesSay, StopsAt}
use Rattle.meta_lines.proofs.Listing.{map_more, map_whole}
use Rattle.meta_lines.proofs.Saying.{say_more}

pub say_on : {V : Type 0} (Says : List V → LineAt → List V → Type 0) (lines : List Line) (k : ℕ) (d : Line) (all new here : List V) → k < length lines →
    LinesSay Says [] (map seen (take k lines)) all → Says all (seen (get_or lines k d)) here → new ≡ all ++ here → LinesSay Says [] (map seen (take (k + 1) lines)) new
say_on Says lines k d all new here within said says grown =
    subst (λ l. LinesSay Says [] l new) (sym (map_more seen lines k d within))
    (subst (LinesSay Says [] (map seen (take k lines) ++ seen (get_or lines k d) ∷ [])) (sym grown) (say_more Says [] (map seen (take k lines)) all (seen (get_or lines k d)) here said says))

pub cut_at : (lines : List Line) (k : ℕ) (d : Line) → k < length lines → map seen lines ≡ map seen (take k lines) ++ seen (get_or lines k d) ∷ map seen (drop (k + 1) lines)
cut_at [] k d within = absurd (omega (arith, within))
cut_at (l ∷ lines) zero d within = refl
cut_at (l ∷ lines) (suc k) d within =
    let next : suc (k + 1) ≡ suc k + 1 = omega arith in
    subst (λ n. seen l ∷ map seen lines ≡ seen l ∷ (map seen (take k lines) ++ seen (get_or lines k d) ∷ map seen (drop n (l ∷ lines)))) next
    (ap (λ ls. seen l ∷ ls) (cut_at lines k d (omega (arith, within))))

pub stop_here : {V : Type 0} (Says : List V → LineAt → List V → Type 0) (Refuses : List V → LineAt → LineError → Type 0) (text : List ℕ) (lines : List Line) (k : ℕ) (d : Line) (before : List V) (e : LineError) →
    k < length lines → map seen lines ≡ said_lines text → LinesSay Says [] (map seen (take k lines)) before → (e ≡ OutOfMemory) ⊎ Refuses before (seen (get_or lines k d)) e →
    (e ≡ OutOfMemory) ⊎ StopsAt Says Refuses (said_lines text) e
stop_here Says Refuses text lines k d before e within are said (inl short) = inl short
stop_here Says Refuses text lines k d before e within are said (inr refused) = inr (record {
  front = map seen (take k lines);
  line = seen (get_or lines k d);
  behind = map seen (drop (k + 1) lines);
  spelled = sym are ∙ cut_at lines k d within;
  before = before;
  said = said;
  refused = refused;
})

pub say_all : {V : Type 0} (Says : List V → LineAt → List V → Type 0) (text : List ℕ) (lines : List Line) (k : ℕ) (all given : List V) → length lines ≤ k → map seen lines ≡ said_lines text →
    LinesSay Says [] (map seen (take k lines)) all → given ≡ all → LinesSay Says [] (said_lines text) given
say_all Says text lines k all given whole are said is =
    subst (λ l. LinesSay Says [] l given) (map_whole seen lines k whole ∙ are) (subst (LinesSay Says [] (map seen (take k lines))) (sym is) said)
