-- Steps back as an array, pin by pin.
use Rattle.std.proofs.Common.{◌≡◌, ◌⊎◌, ◌<◌, ◌+◌, inl, inr, ℕ, zero, suc, List, [], ◌∷◌, ◌++◌, Option, Some, None, length, map, refl, sym, ap, ◌∙◌, subst, arith}
use Rattle.std.specs.Prelude.{MatchOption, IfSome, slice_get}
use Rattle.std.proofs.lemmas.List.{length_push}
use Rattle.std.proofs.lemmas.Option.{slice_get_within}
use Rattle.list_laws.proofs.Places.{get_either, element}
use Rattle.pb_expand.specs.declared.number.PinIx.{PinIx}
use Rattle.pb_expand.specs.Graph.{Graph, pin_ix}
use Rattle.prog_map.specs.Choices.{Choices}
use Rattle.prog_map.specs.Back.{StepsBack}
use Rattle.prog_map.specs.Walk.{IsWalk, IsLast, AreSteps, AreLastPins}
use Rattle.prog_map.specs.Ends.{Leads, StayInside}
use Rattle.prog_map.proofs.Climbs.{some_injective}

-- the steps of the first pins
pub record AreFirstSteps (g : Graph) (c : Choices) (steps : List (Option ℕ)) (n : ℕ) : Type 0 where
  pub all : length steps ≡ n
  pub exact : (pin : ℕ) (o : Option ℕ) → slice_get steps pin ≡ Some o → MatchOption o ((p : ℕ) → StepsBack g c pin p → ⊥) (λ p. StepsBack g c pin p)
  pub inside : (pin : ℕ) (o : Option ℕ) → slice_get steps pin ≡ Some o → IfSome o (λ p. p < length g.pins)

pub steps_none : (g : Graph) (c : Choices) → AreFirstSteps g c [] 0
steps_none g c = record { all = refl; exact = λ pin o is. absurd (cc); inside = λ pin o is. absurd (cc) }

pub steps_more : (g : Graph) (c : Choices) (steps : List (Option ℕ)) (n : ℕ) (o : Option ℕ) → AreFirstSteps g c steps n →
    MatchOption o ((p : ℕ) → StepsBack g c n p → ⊥) (λ p. StepsBack g c n p) → IfSome o (λ p. p < length g.pins) → AreFirstSteps g c (steps ++ o ∷ []) (n + 1)
steps_more g c steps n o are exact inside = record {
  all = omega (arith, length_push steps o, are.all);
  exact = λ pin q is. by_exact pin q (get_either steps (o ∷ []) pin q is);
  inside = λ pin q is. by_inside pin q (get_either steps (o ∷ []) pin q is);
}
  where
    by_exact : (pin : ℕ) (q : Option ℕ) → ((slice_get steps pin ≡ Some q) ⊎ ((j : ℕ) × (pin ≡ length steps + j) × (slice_get (o ∷ []) j ≡ Some q))) →
        MatchOption q ((p : ℕ) → StepsBack g c pin p → ⊥) (λ p. StepsBack g c pin p)
    by_exact pin q (inl front) = are.exact pin q front
    by_exact pin q (inr (zero, place, is)) =
        let same : o ≡ q = some_injective is in
        let number : pin ≡ n = omega (arith, place, are.all) in
        subst (λ k. MatchOption q ((p : ℕ) → StepsBack g c k p → ⊥) (λ p. StepsBack g c k p)) (sym number)
        (subst (λ x. MatchOption x ((p : ℕ) → StepsBack g c n p → ⊥) (λ p. StepsBack g c n p)) same exact)
    by_exact pin q (inr (suc j, place, is)) = absurd (cc)

    by_inside : (pin : ℕ) (q : Option ℕ) → ((slice_get steps pin ≡ Some q) ⊎ ((j : ℕ) × (pin ≡ length steps + j) × (slice_get (o ∷ []) j ≡ Some q))) → IfSome q (λ p. p < length g.pins)
    by_inside pin q (inl front) = are.inside pin q front
    by_inside pin q (inr (zero, place, is)) = subst (λ x. IfSome x (λ p. p < length g.pins)) (some_injective is) inside
    by_inside pin q (inr (suc j, place, is)) = absurd (cc)

pub steps_whole : (g : Graph) (c : Choices) (steps : List (Option ℕ)) (n : ℕ) → n ≡ length g.pins → AreFirstSteps g c steps n → AreSteps g c steps
steps_whole g c steps n whole are = record {
  all = are.all ∙ whole;
  there = λ pin source is. are.exact pin (Some source) is;
  none = λ pin is. are.exact pin None is;
  inside = λ pin source is. are.inside pin (Some source) is;
}

module _ (g : Graph) (c : Choices) (steps : List (Option ℕ)) (are : AreSteps g c steps) where
  pub stay : StayInside steps
  stay = record { each = λ pin source is. let low = are.inside pin source is in omega (arith, low, are.all) }

  walk_same : (start last : ℕ) (later : List ℕ) → IsWalk (Leads steps) start last later → IsWalk (StepsBack g c) start last later
  walk_same start last [] walk = walk
  walk_same start last (next ∷ later) walk = (are.there start next walk.0, walk.1, walk_same next last later walk.2)

  -- the last node of a walk that begins at a pin is a pin
  last_inside : (start last : ℕ) (later : List ℕ) → start < length steps → IsWalk (Leads steps) start last later → last < length steps
  last_inside start last [] low walk = omega (arith, low, walk)
  last_inside start last (next ∷ later) low walk =
      let inside = are.inside start next walk.0 in last_inside next last later (omega (arith, inside, are.all)) walk.2

  pub last_same : (start last : ℕ) → start < length g.pins → IsLast (Leads steps) start last → IsLast (StepsBack g c) start last
  last_same start last low is = record {
    later = is.later;
    walk = walk_same start last is.later is.walk;
    ends = elim is.ends [ inl none ↦ inl (stops none) | inr more ↦ inr (more.0, are.there last more.0 more.1, more.2) ];
  }
    where
      stops : ((pin : ℕ) → Leads steps last pin → ⊥) → (pin : ℕ) → StepsBack g c last pin → ⊥
      stops none pin step =
          let e = element steps last (last_inside start last is.later (omega (arith, low, are.all)) is.walk) in by e.0 e.1
        where
          by : (o : Option ℕ) → slice_get steps last ≡ Some o → ⊥
          by None at = are.none last at pin step
          by (Some source) at = none source at

-- pins as numbers
pub pins_push : (last : List PinIx) (end : ℕ) (ends : List ℕ) → map (λ (p : PinIx). p.0) last ≡ ends → map (λ (p : PinIx). p.0) (last ++ pin_ix end ∷ []) ≡ ends ++ end ∷ []
pins_push [] end ends is = ap (λ l. l ++ end ∷ []) is
pins_push (p ∷ last) end [] is = absurd (cc)
pins_push (p ∷ last) end (e ∷ ends) is =
    let first : p.0 ≡ e = cc in
    let rest : map (λ (q : PinIx). q.0) last ≡ ends = cc in
    ap (λ x. x ∷ map (λ (q : PinIx). q.0) (last ++ pin_ix end ∷ [])) first ∙ ap (λ l. e ∷ l) (pins_push last end ends rest)

number_at : (last : List PinIx) (n : ℕ) (pin : PinIx) → slice_get last n ≡ Some pin → slice_get (map (λ (p : PinIx). p.0) last) n ≡ Some pin.0
number_at [] n pin is = absurd (cc)
number_at (p ∷ last) zero pin is = ap (λ (x : PinIx). Some x.0) (some_injective is)
number_at (p ∷ last) (suc n) pin is = number_at last n pin is

numbers_long : (last : List PinIx) → length (map (λ (p : PinIx). p.0) last) ≡ length last
numbers_long [] = refl
numbers_long (p ∷ last) = ap suc (numbers_long last)

pub last_pins_are : (g : Graph) (c : Choices) (steps : List (Option ℕ)) (ends : List ℕ) (last : List PinIx) → AreSteps g c steps → length ends ≡ length steps →
    ((node end : ℕ) → slice_get ends node ≡ Some end → IsLast (Leads steps) node end) → map (λ (p : PinIx). p.0) last ≡ ends → AreLastPins g c last
last_pins_are g c steps ends last are long each same = record {
  all = sym (numbers_long last) ∙ ap length same ∙ long ∙ are.all;
  each = λ n pin is.
      let at : slice_get ends n ≡ Some pin.0 = ap (λ l. slice_get l n) (sym same) ∙ number_at last n pin is in
      let inside = slice_get_within ends n pin.0 at in
      last_same g c steps are n pin.0 (omega (arith, inside, long, are.all)) (each n pin.0 at);
}
