-- White space at the ends of a text is cut off.
use Rattle.std.proofs.Common.{◌≡◌, ◌<◌, ◌+◌, ◌-◌, ◌≤◌, ℕ, false, List, [], ◌∷◌, ◌++◌, length, take, drop, get_or, sym, ap, ◌∙◌, subst, arith}
use Rattle.std.specs.List.{AllPass}
use Rattle.std.proofs.lemmas.List.{take-append-drop, take_more, same_from_push}
use Rattle.vtr_base.specs.Spans.{is_white, Stops, IsSpan}
use Rattle.text_parts.specs.Trims.{IsCutAtEnd, IsTrimmed}

no_end : (front : List ℕ) (b : ℕ) → [] ≡ front ++ b ∷ [] → ⊥
no_end [] b e = cc
no_end (x ∷ front) b e = cc

pub cut_all : (text inner : List ℕ) (left : ℕ) → left ≡ 0 → inner ≡ [] → AllPass is_white (drop left text) → IsCutAtEnd text inner
cut_all text inner left none is white = record {
  back = text;
  spelled = ap (λ l. l ++ text) (sym is);
  white = subst (λ n. AllPass is_white (drop n text)) none white;
  ends = λ front b e. absurd (no_end front b (sym is ∙ e));
}

pub cut_here : (text inner : List ℕ) (left b : ℕ) → 0 < left → left ≤ length text → b ≡ get_or text (left - 1) 0 → is_white b ≡ false →
    AllPass is_white (drop left text) → inner ≡ take (left - 1 + 1) text → IsCutAtEnd text inner
cut_here text inner left b some within at word_and_rest white is =
    let next : left - 1 + 1 ≡ left = omega arith in
    let cut : inner ≡ take left text = is ∙ ap (λ n. take n text) next in
    let whole : inner ≡ take (left - 1) text ++ get_or text (left - 1) 0 ∷ [] = is ∙ take_more text (left - 1) 0 (omega arith) in
    record {
      back = drop left text;
      spelled = sym (take-append-drop left text) ∙ ap (λ l. l ++ drop left text) (sym cut);
      white = white;
      ends = λ front c e.
          (let last = (same_from_push (take (left - 1) text) front (get_or text (left - 1) 0) c (sym whole ∙ e)).1 in
          subst (λ v. is_white v ≡ false) (at ∙ last) word_and_rest);
    }

front_stops : (inner back : List ℕ) → Stops is_white (inner ++ back) → Stops is_white inner
front_stops [] back stops = tt
front_stops (b ∷ inner) back stops = stops

pub both_cut : (text gap rest inner : List ℕ) → IsSpan is_white text gap rest → IsCutAtEnd rest inner → IsTrimmed text inner
both_cut text gap rest inner span cut = record {
  front = gap;
  back = cut.back;
  spelled = span.spelled ∙ ap (λ r. gap ++ r) cut.spelled;
  front_white = span.all;
  back_white = cut.white;
  starts = front_stops inner cut.back (subst (Stops is_white) cut.spelled span.stops);
  ends = cut.ends;
}
