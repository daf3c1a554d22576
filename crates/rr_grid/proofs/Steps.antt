-- What is kept, and which items are right.
use Rattle.std.proofs.Common.{◌≡◌, ◌<◌, ◌+◌, ◌⊎◌, ℕ, zero, suc, Bool, true, List, [], ◌∷◌, ◌++◌, Option, Some, None, MatchOption, length, slice_get, refl, sym, ap, ◌∙◌, subst, inl, inr, arith}
use Rattle.std.proofs.lemmas.Bool.{cases_lt}
use Rattle.std.proofs.lemmas.List.{length_push}
use Rattle.elem_text.specs.declared.elem.Elem.{Elem}
use Rattle.list_laws.proofs.Places.{element, get_either}
use Rattle.rr_items.specs.declared.grid.GridPlace.{GridPlace}
use Rattle.rr_items.specs.Grid.{SaysPlace}
use Rattle.rr_grid.specs.declared.error.GridError.{GridError}
use Rattle.rr_grid.specs.declared.firsts.FirstPlace.{FirstPlace}
use Rattle.rr_grid.specs.declared.firsts.Firsts.{Firsts}
use Rattle.rr_grid.specs.Firsts.{first_at, AreFirsts, KeepsAt, KeepsRoot, IsFirstWithRoot}
use Rattle.rr_grid.specs.Gathering.{AreRight}
use Rattle.rr_grid.specs.Refusing.{IsGivenBefore, IsMisplaced, Fails, IsRefused}
use Rattle.rr_grid.specs.Saying.{Says, NoneBefore, IsFirstAt, HasRootAmong, IsRight}
use Rattle.rr_grid.proofs.Kept.{one_said}

pub kept_is : (es : List Elem) (n : ℕ) (f : Firsts) → AreFirsts es n f → (x y : ℕ) (v : FirstPlace) → first_at f x y ≡ Some v →
    IsFirstAt es x y v.index v.place
kept_is es n f are x y v at = subst (λ o. MatchOption o (NoneBefore es n x y) (λ w. IsFirstAt es x y w.index w.place)) at (are x y)

pub none_kept : (es : List Elem) (n : ℕ) (f : Firsts) → AreFirsts es n f → (x y : ℕ) → first_at f x y ≡ None → NoneBefore es n x y
none_kept es n f are x y at = subst (λ o. MatchOption o (NoneBefore es n x y) (λ w. IsFirstAt es x y w.index w.place)) at (are x y)

module _ (es : List Elem) (n : ℕ) (f : Firsts) (are : AreFirsts es n f) where
  kept_fresh : (index x y : ℕ) → KeepsAt f index x y → NoneBefore es index x y
  kept_fresh index x y keeps = subst (λ i. NoneBefore es i x y) keeps.is (kept_is es n f are x y keeps.first keeps.at).first

  kept_or_given : (index : ℕ) (p : GridPlace) → index < n → Says es index p → KeepsAt f index p.x p.y ⊎ IsGivenBefore es index p
  kept_or_given index p low said = by (first_at f p.x p.y) refl
    where
      by : (o : Option FirstPlace) → first_at f p.x p.y ≡ o → KeepsAt f index p.x p.y ⊎ IsGivenBefore es index p
      by None at = absurd (none_kept es n f are p.x p.y at index p low said refl refl)
      by (Some v) at =
          let is = kept_is es n f are p.x p.y v at in
          elim (cases_lt v.index index) [
            | inl less ↦ inr (record { earlier = v.index; other = v.place; low = less; said = is.said; x_is = is.x_is; y_is = is.y_is })
            | inr more ↦ elim (cases_lt index v.index) [
              | inl later ↦ absurd (is.first index p later said refl refl)
              | inr fewer ↦ inl (record { first = v; at = at; is = omega (arith, more, fewer) })
            ]
          ]

  root_among : (p : GridPlace) → KeepsRoot f p → HasRootAmong es p
  root_among p keeps =
      let v = keeps.leads.first in
      let is = kept_is es n f are keeps.leads.x keeps.leads.y v keeps.leads.at in
      record {
        root = v.place;
        index = v.index;
        first = subst (λ a. IsFirstAt es a v.place.y v.index v.place) (sym is.x_is)
            (subst (λ b. IsFirstAt es keeps.leads.x b v.index v.place) (sym is.y_is) is);
        right = record {
          x = ap (λ a. a + p.width_offset) is.x_is ∙ keeps.leads.x_is;
          y = ap (λ a. a + p.height_offset) is.y_is ∙ keeps.leads.y_is;
          block_type = ap (λ r. r.block_type) (sym keeps.leads.is) ∙ keeps.block_type;
          no_width = ap (λ r. r.width_offset) (sym keeps.leads.is) ∙ keeps.no_width;
          no_height = ap (λ r. r.height_offset) (sym keeps.leads.is) ∙ keeps.no_height;
        };
      }

  module _ (one_place : (e : Elem) (p q : GridPlace) → SaysPlace e p → SaysPlace e q → p ≡ q)
      (within : (k : ℕ) (p : GridPlace) → Says es k p → k < n) where
    root_kept : (p : GridPlace) → HasRootAmong es p → KeepsRoot f p
    root_kept p has = by (first_at f has.root.x has.root.y) refl
      where
        by : (o : Option FirstPlace) → first_at f has.root.x has.root.y ≡ o → KeepsRoot f p
        by None at =
            absurd (none_kept es n f are has.root.x has.root.y at has.index has.root (within has.index has.root has.first.said) has.first.said refl refl)
        by (Some v) at =
            let is = kept_is es n f are has.root.x has.root.y v at in
            elim (cases_lt v.index has.index) [
              | inl less ↦ absurd (has.first.first v.index v.place less is.said is.x_is is.y_is)
              | inr more ↦ elim (cases_lt has.index v.index) [
                | inl later ↦ absurd (is.first has.index has.root later has.first.said refl refl)
                | inr fewer ↦
                    (let index : v.index ≡ has.index = omega (arith, more, fewer) in
                    let same = one_said one_place es has.index has.root v.place has.first.said (subst (λ i. Says es i v.place) index is.said) in
                    record {
                      root = has.root;
                      leads = record { x = has.root.x; y = has.root.y; first = v; x_is = has.right.x; y_is = has.right.y; at = at; is = same };
                      block_type = has.right.block_type;
                      no_width = has.right.no_width;
                      no_height = has.right.no_height;
                    })
              ]
            ]

    pub misplaced : (known : ℕ → Bool) (index : ℕ) (p : GridPlace) → Says es index p → known p.block_type ≡ true →
        (IsFirstWithRoot f index p → ⊥) → IsMisplaced known es index p.x p.y
    misplaced known index p said has_type not = record {
      place = p;
      said = said;
      has_type = has_type;
      wrong = elim (kept_or_given index p (within index p said) said) [
        | inl keeps ↦ inr (λ has. not (keeps, root_kept p has))
        | inr given ↦ inl given
      ];
      told_x = refl;
      told_y = refl;
    }

  pub all_right : (known : ℕ → Bool) (index : ℕ) (p : GridPlace) → Says es index p → known p.block_type ≡ true → IsFirstWithRoot f index p →
      IsRight known es index p
  all_right known index p said has_type kept =
      record { said = said; has_type = has_type; fresh = kept_fresh index p.x p.y kept.0; rooted = root_among p kept.1 }

-- one place more

pub none_right : (known : ℕ → Bool) (es : List Elem) → AreRight known es 0 []
none_right known es = record { long = refl; each = λ k place at. absurd (cc) }

one_behind : {X : Type 0} (x y : X) (j : ℕ) → slice_get (x ∷ []) j ≡ Some y → (j ≡ 0) × (x ≡ y)
one_behind x y zero at = (refl, cc)
one_behind x y (suc j) at = absurd (cc)

pub right_more : (known : ℕ → Bool) (es : List Elem) (n : ℕ) (places : List GridPlace) (p : GridPlace) → AreRight known es n places → IsRight known es n p →
    AreRight known es (n + 1) (places ++ p ∷ [])
right_more known es n places p are right = record {
  long = omega (arith, length_push places p, are.long);
  each = λ k place at. each k place (get_either places (p ∷ []) k place at);
}
  where
    each : (k : ℕ) (place : GridPlace) →
        (slice_get places k ≡ Some place) ⊎ ((j : ℕ) × (k ≡ length places + j) × (slice_get (p ∷ []) j ≡ Some place)) → IsRight known es k place
    each k place (inl at) = are.each k place at
    each k place (inr last) =
        let is = one_behind p place last.0 last.2 in
        let index : n ≡ k = omega (arith, last.1, is.0, are.long) in
        subst (λ i. IsRight known es i place) index (subst (λ q. IsRight known es n q) is.1 right)

pub refused_there : (known : ℕ → Bool) (es : List Elem) (n : ℕ) (places : List GridPlace) (error : GridError) → AreRight known es n places →
    Fails known es n error → IsRefused known es error
refused_there known es n places error are fails = record {
  index = n;
  earlier = λ k low. (let p = element places k (omega (arith, low, are.long)) in (p.0, are.each k p.0 p.1));
  fails = fails;
}
