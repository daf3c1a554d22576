-- The pins of classes that are numbered from a number on.
use Rattle.std.proofs.Common.{◌≡◌, ◌≤◌, ◌+◌, ℕ, zero, suc, List, [], ◌∷◌, ◌++◌, Some, length, map, drop, slice_get, refl, sym, ap, ◌∙◌, append_assoc, codes, arith}
use Rattle.std.proofs.lemmas.List.{append-nil}
use Rattle.elem_text.specs.declared.elem.Elem.{Elem}
use Rattle.elem_reading.specs.Kids.{kids_named}
use Rattle.rr_places.specs.Pins.{PinItem, pins_from}

dropped : {X : Type 0} (xs : List X) (k : ℕ) (x : X) → slice_get xs k ≡ Some x → drop k xs ≡ x ∷ drop (suc k) xs
dropped [] k x at = cc
dropped (y ∷ xs) zero x at = let same : y ≡ x = cc in ap (λ z. z ∷ xs) same
dropped (y ∷ xs) (suc k) x at = dropped xs k x at

nothing_left : {X : Type 0} (xs : List X) (k : ℕ) → length xs ≤ k → drop k xs ≡ []
nothing_left [] zero end = refl
nothing_left [] (suc k) end = refl
nothing_left (x ∷ xs) zero end = absurd (omega arith)
nothing_left (x ∷ xs) (suc k) end = nothing_left xs k (omega arith)

pub pins_step : (es : List Elem) (k : ℕ) (e : Elem) (before after all : List PinItem) → slice_get es k ≡ Some e → before ++ pins_from k (drop k es) ≡ all →
    after ≡ before ++ map (λ pin. (k, pin)) (kids_named e (codes "pin")) → after ++ pins_from (k + 1) (drop (k + 1) es) ≡ all
pins_step es k e before after all at so_far is =
    let on : k + 1 ≡ suc k = omega arith in
    let mine = map (λ (pin : Elem). (k, pin)) (kids_named e (codes "pin")) in
    let cut : drop k es ≡ e ∷ drop (k + 1) es = dropped es k e at ∙ ap (λ n. e ∷ drop n es) (sym on) in
    ap (λ l. l ++ pins_from (k + 1) (drop (k + 1) es)) is ∙ append_assoc before mine (pins_from (k + 1) (drop (k + 1) es)) ∙
    ap (λ l. before ++ pins_from k l) (sym cut) ∙ so_far

pub pins_end : (es : List Elem) (k : ℕ) (found all : List PinItem) → length es ≤ k → found ++ pins_from k (drop k es) ≡ all → found ≡ all
pins_end es k found all end so_far =
    sym (append-nil found) ∙ ap (λ l. found ++ pins_from k l) (sym (nothing_left es k end)) ∙ so_far
