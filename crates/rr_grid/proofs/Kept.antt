-- Places by x and y.
use Rattle.std.proofs.Common.{◌≡◌, ◌≤◌, ◌+◌, ◌⊎◌, ℕ, Bool, true, false, cond, nat_eq, List, Option, Some, None, is_some, MatchOption, slice_get, true≢false, refl, sym, ap, ◌∙◌, subst, inl, inr, arith}
use Rattle.std.proofs.lemmas.Bool.{cases_lt, and_parts, and_from}
use Rattle.std.proofs.lemmas.Bool.Decides.{nat_tests}
use Rattle.elem_text.specs.declared.elem.Elem.{Elem}
use Rattle.rr_items.specs.declared.grid.GridFault.{GridFault}
use Rattle.rr_items.specs.declared.grid.GridFault.TheVariants.{Layer, Number}
use Rattle.rr_items.specs.declared.grid.GridPlace.{GridPlace}
use Rattle.rr_items.specs.Grid.{SaysPlace, IsFault}
use Rattle.rr_items.specs.Ground.{IsOnGround}
use Rattle.rr_grid.specs.declared.firsts.Spot.{Spot}
use Rattle.rr_grid.specs.declared.firsts.FirstPlace.{FirstPlace}
use Rattle.rr_grid.specs.declared.firsts.Firsts.{Firsts}
use Rattle.rr_grid.specs.Firsts.{same_spot, first_at, AreFirsts, AddsFirst}
use Rattle.rr_grid.specs.Refusing.{SaysNone}
use Rattle.rr_grid.specs.Saying.{Says, NoneBefore, IsFirstAt}

nat_same : (m n : ℕ) → nat_eq m n ≡ true → m ≡ n
nat_same m n e = grind (arith, nat_tests)

nat_itself : (m n : ℕ) → m ≡ n → nat_eq m n ≡ true
nat_itself m n e = grind (arith, nat_tests)

abbrev pub spot : ℕ → ℕ → Spot
spot x y = record { x = x; y = y }

spot_same : (x y v w : ℕ) → same_spot (spot x y) (spot v w) ≡ true → (x ≡ v) × (y ≡ w)
spot_same x y v w e = (let k = and_parts (nat_eq x v) (nat_eq y w) e in (nat_same x v k.0, nat_same y w k.1))

spot_itself : (x y v w : ℕ) → (x ≡ v) × (y ≡ w) → same_spot (spot x y) (spot v w) ≡ true
spot_itself x y v w both = and_from (nat_eq x v) (nat_eq y w) (nat_itself x v both.0) (nat_itself y w both.1)

spot_other : (x y v w : ℕ) → ((x ≡ v) × (y ≡ w) → ⊥) → same_spot (spot x y) (spot v w) ≡ false
spot_other x y v w not = by (same_spot (spot x y) (spot v w)) refl
  where
    by : (b : Bool) → same_spot (spot x y) (spot v w) ≡ b → same_spot (spot x y) (spot v w) ≡ false
    by true t = absurd (not (spot_same x y v w t))
    by false f = f

spot_either : (x y v w : ℕ) → ((x ≡ v) × (y ≡ w)) ⊎ ((x ≡ v) × (y ≡ w) → ⊥)
spot_either x y v w = by (same_spot (spot x y) (spot v w)) refl
  where
    by : (b : Bool) → same_spot (spot x y) (spot v w) ≡ b → ((x ≡ v) × (y ≡ w)) ⊎ ((x ≡ v) × (y ≡ w) → ⊥)
    by true t = inl (spot_same x y v w t)
    by false f = inr (λ both. true≢false (sym (spot_itself x y v w both) ∙ f))

none_is : {X : Type 0} (o : Option X) → is_some o ≡ false → o ≡ None
none_is None e = refl
none_is (Some x) e = cc

pub adds_first : (f g : Firsts) (index : ℕ) (place : GridPlace) (there : Bool) → there ≡ is_some (first_at f place.x place.y) → there ≡ false →
    ((q : Spot) → first_at g q.x q.y ≡ cond (same_spot (spot place.x place.y) q) (Some (record { index = index; place = place })) (first_at f q.x q.y)) →
    AddsFirst f index place g
adds_first f g index place there is not updates = record {
  kept = λ x y first at. kept x y first at (same_spot (spot place.x place.y) (spot x y)) refl;
  other = λ x y none apart. updates (spot x y) ∙ ap (λ b. cond b new (first_at f x y)) (spot_other place.x place.y x y apart) ∙ none;
  added = λ none. updates (spot place.x place.y) ∙
      ap (λ b. cond b new (first_at f place.x place.y)) (spot_itself place.x place.y place.x place.y (refl, refl));
}
  where
    new : Option FirstPlace
    new = Some (record { index = index; place = place })

    old_none : first_at f place.x place.y ≡ None
    old_none = none_is (first_at f place.x place.y) (sym is ∙ not)

    kept : (x y : ℕ) (first : FirstPlace) → first_at f x y ≡ Some first → (b : Bool) → same_spot (spot place.x place.y) (spot x y) ≡ b →
        first_at g x y ≡ Some first
    kept x y first at true t =
        let same = spot_same place.x place.y x y t in
        let none : first_at f x y ≡ None = subst (λ v. first_at f v y ≡ None) same.0 (subst (λ w. first_at f place.x w ≡ None) same.1 old_none) in
        absurd (cc)
    kept x y first at false e = updates (spot x y) ∙ ap (λ b. cond b new (first_at f x y)) e ∙ at

-- one item more

pub no_place : (e : Elem) (fault : GridFault) → IsFault e fault → (place : GridPlace) → SaysPlace e place → IsOnGround e → ⊥
no_place e Layer off place says ground = off ground
no_place e Number fails place says ground = fails.1 place says

pub same_elem : (es : List Elem) (k : ℕ) (d e : Elem) → slice_get es k ≡ Some d → slice_get es k ≡ Some e → d ≡ e
same_elem es k d e at_d at_e = (let both : Some d ≡ Some e = sym at_d ∙ at_e in cc)

pub none_said : (es : List Elem) (k : ℕ) (fault : GridFault) (p : GridPlace) → SaysNone es k fault → Says es k p → ⊥
none_said es k fault p none said =
    let e = same_elem es k said.e none.e said.at none.at in
    no_place none.e fault none.fails p (subst (λ d. SaysPlace d p) e said.says) (subst IsOnGround e said.ground)

none_more : (es : List Elem) (n x y : ℕ) → NoneBefore es n x y →
    ((place : GridPlace) → Says es n place → place.x ≡ x → place.y ≡ y → ⊥) → NoneBefore es (n + 1) x y
none_more es n x y none last k place low said is_x is_y =
    elim (cases_lt k n) [
      | inl less ↦ none k place less said is_x is_y
      | inr more ↦ (let same : k ≡ n = omega (arith, low, more) in last place (subst (λ i. Says es i place) same said) is_x is_y)
    ]

pub firsts_none : (es : List Elem) (n : ℕ) (f : Firsts) → AreFirsts es n f → ((place : GridPlace) → Says es n place → ⊥) → AreFirsts es (n + 1) f
firsts_none es n f are lacks x y = by (first_at f x y) (are x y)
  where
    by : (o : Option FirstPlace) → MatchOption o (NoneBefore es n x y) (λ v. IsFirstAt es x y v.index v.place) →
        MatchOption o (NoneBefore es (n + 1) x y) (λ v. IsFirstAt es x y v.index v.place)
    by (Some v) is = is
    by None none = none_more es n x y none (λ place said is_x is_y. lacks place said)

pub firsts_past : (es : List Elem) (m n : ℕ) (f : Firsts) → n ≤ m → AreFirsts es m f → AreFirsts es n f
firsts_past es m n f low are x y = by (first_at f x y) (are x y)
  where
    by : (o : Option FirstPlace) → MatchOption o (NoneBefore es m x y) (λ v. IsFirstAt es x y v.index v.place) →
        MatchOption o (NoneBefore es n x y) (λ v. IsFirstAt es x y v.index v.place)
    by (Some v) is = is
    by None none = λ k place less said is_x is_y. none k place (omega (arith, less, low)) said is_x is_y

module _ (one_place : (e : Elem) (p q : GridPlace) → SaysPlace e p → SaysPlace e q → p ≡ q) where
  pub one_said : (es : List Elem) (k : ℕ) (p q : GridPlace) → Says es k p → Says es k q → p ≡ q
  one_said es k p q a b =
      let both : Some a.e ≡ Some b.e = sym a.at ∙ b.at in
      let e : a.e ≡ b.e = cc in
      one_place b.e p q (subst (λ x. SaysPlace x p) e a.says) b.says

  pub firsts_more : (es : List Elem) (n : ℕ) (f g : Firsts) (p : GridPlace) → Says es n p → AreFirsts es n f → AddsFirst f n p g → AreFirsts es (n + 1) g
  firsts_more es n f g p said are adds x y = by (first_at f x y) refl (are x y) (spot_either p.x p.y x y)
    where
      by : (o : Option FirstPlace) → first_at f x y ≡ o → MatchOption o (NoneBefore es n x y) (λ v. IsFirstAt es x y v.index v.place) →
          ((p.x ≡ x) × (p.y ≡ y)) ⊎ ((p.x ≡ x) × (p.y ≡ y) → ⊥) →
          MatchOption (first_at g x y) (NoneBefore es (n + 1) x y) (λ v. IsFirstAt es x y v.index v.place)
      by (Some v) at is either = rw (adds.kept x y v at) is
      by None at none (inl same) =
          let old : first_at f p.x p.y ≡ None =
          subst (λ v. first_at f v p.y ≡ None) (sym same.0) (subst (λ w. first_at f x w ≡ None) (sym same.1) at) in
          let new : first_at g x y ≡ Some (record { index = n; place = p }) =
          subst (λ v. first_at g v y ≡ Some (record { index = n; place = p })) same.0
          (subst (λ w. first_at g p.x w ≡ Some (record { index = n; place = p })) same.1 (adds.added old)) in
          rw new (record { said = said; x_is = same.0; y_is = same.1; first = none })
      by None at none (inr apart) =
          rw (adds.other x y at apart)
          (none_more es n x y none (λ q says is_x is_y.
          let same = one_said es n p q said says in
          apart (ap (λ r. r.x) same ∙ is_x, ap (λ r. r.y) same ∙ is_y)))
