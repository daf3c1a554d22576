-- A grid of right items.
use Rattle.std.proofs.Common.{◌≡◌, ◌<◌, ◌^◌, ℕ, Bool, List, Some, map, length, slice_get, refl, sym, ap, ◌∙◌, subst, inl, inr, arith}
use Rattle.std.proofs.lemmas.Bool.{cases_lt}
use Rattle.std.proofs.lemmas.List.{length-map}
use Rattle.std.proofs.lemmas.Option.{slice_get_within, slice_get-map}
use Rattle.std.specs.Option.{option_map}
use Rattle.elem_text.specs.declared.elem.Elem.{Elem}
use Rattle.vtr_base.specs.Lists.{Has}
use Rattle.list_laws.proofs.Members.{has_at, at_has}
use Rattle.list_laws.proofs.Onces.{once_of}
use Rattle.list_laws.proofs.Places.{element}
use Rattle.rr_items.specs.declared.grid.GridPlace.{GridPlace}
use Rattle.rr_items.specs.Grid.{SaysPlace}
use Rattle.rr_grid.specs.declared.firsts.Firsts.{Firsts}
use Rattle.rr_grid.specs.Firsts.{AreFirsts}
use Rattle.rr_grid.specs.Gathering.{FitTogether, AreRight}
use Rattle.rr_grid.specs.Roots.{column_and_row, HasRoot, AreRooted}
use Rattle.rr_grid.specs.Saying.{Says, SaysGrid}
use Rattle.rr_grid.proofs.Kept.{one_said}
use Rattle.rr_grid.proofs.Steps.{kept_is, none_kept}

from_mapped : {A B : Type 0} (g : A → B) (xs : List A) (k : ℕ) (y : B) → slice_get (map g xs) k ≡ Some y → (x : A) × (slice_get xs k ≡ Some x) × (g x ≡ y)
from_mapped g xs k y at =
    let x = element xs k (omega (arith, slice_get_within (map g xs) k y at, length-map xs g)) in
    let both : Some (g x.0) ≡ Some y = sym (slice_get-map g xs k ∙ ap (option_map g) x.1) ∙ at in
    (x.0, x.1, cc)

module _ (one_place : (e : Elem) (p q : GridPlace) → SaysPlace e p → SaysPlace e q → p ≡ q) (known : ℕ → Bool) (es : List Elem)
    (places : List GridPlace) (are : AreRight known es (length es) places) where
  said_has : (k : ℕ) (p : GridPlace) → Says es k p → Has places p
  said_has k p said =
      let q = element places k (omega (arith, slice_get_within es k said.e said.at, are.long)) in
      let same = one_said one_place es k q.0 p (are.each k q.0 q.1).said said in
      subst (Has places) same (has_at places k q.0 q.1)

  never_again : (i j : ℕ) (p q : GridPlace) → i < j → slice_get places i ≡ Some p → slice_get places j ≡ Some q → column_and_row p ≡ column_and_row q → ⊥
  never_again i j p q low at_p at_q same =
      (are.each j q at_q).fresh i p low (are.each i p at_p).said (ap (λ s. s.0) same) (ap (λ s. s.1) same)

  stand_once : (i j : ℕ) (s : ℕ × ℕ) → slice_get (map column_and_row places) i ≡ Some s → slice_get (map column_and_row places) j ≡ Some s → i ≡ j
  stand_once i j s at_i at_j =
      let p = from_mapped column_and_row places i s at_i in
      let q = from_mapped column_and_row places j s at_j in
      elim (cases_lt i j) [
        | inl less ↦ absurd (never_again i j p.0 q.0 less p.1 q.1 (p.2 ∙ sym q.2))
        | inr more ↦ elim (cases_lt j i) [
          | inl later ↦ absurd (never_again j i q.0 p.0 later q.1 p.1 (q.2 ∙ sym p.2))
          | inr fewer ↦ omega (arith, more, fewer)
        ]
      ]

  rooted : (p : GridPlace) → Has places p → HasRoot places p
  rooted p has =
      let k = at_has places p has in
      let among = (are.each k.0 p k.1).rooted in
      record { root = among.root; has = said_has among.index among.root among.first.said; right = among.right }

  low_x : (p : GridPlace) → Has places p → p.x < 2 ^ 31
  low_x p has = (let k = at_has places p has in omega (arith, (are.each k.0 p k.1).said.says.x.within))

  low_y : (p : GridPlace) → Has places p → p.y < 2 ^ 31
  low_y p has = (let k = at_has places p has in omega (arith, (are.each k.0 p k.1).said.says.y.within))

  are_rooted : AreRooted places
  are_rooted = record { once = once_of (map column_and_row places) stand_once; rooted = rooted; low_x = low_x; low_y = low_y }

  pub said_grid : SaysGrid known es places
  said_grid = record {
    long = are.long;
    each = λ k p at. (are.each k p at).said;
    has_type = λ p has. (let k = at_has places p has in (are.each k.0 p k.1).has_type);
    right = are_rooted;
  }

  pub fit_together : (f : Firsts) → AreFirsts es (length es) f → FitTogether places f
  fit_together f firsts = record {
    right = are_rooted;
    kept = λ x y v at. (let is = kept_is es (length es) f firsts x y v at in
        record { has = said_has v.index v.place is.said; x_is = is.x_is; y_is = is.y_is });
    all = λ p has none. (let k = at_has places p has in
        let said = (are.each k.0 p k.1).said in
        none_kept es (length es) f firsts p.x p.y none k.0 p (slice_get_within es k.0 said.e said.at) said refl refl);
  }
