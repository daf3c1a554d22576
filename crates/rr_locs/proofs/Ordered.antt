-- The first location at a place, and those that follow it.
use Rattle.std.proofs.Common.{◌≡◌, ◌<◌, ◌+◌, ℕ, zero, suc, List, [], ◌∷◌, Option, Some, None, MatchOption, length, slice_get, refl, sym, ap, ◌∙◌, subst, inl, inr, arith}
use Rattle.std.proofs.lemmas.Bool.{cases_lt}
use Rattle.std.proofs.lemmas.Option.{slice_get_within}
use Rattle.vtr_base.specs.Lists.{Has}
use Rattle.list_laws.specs.Orders.{Ordered, StandOrdered}
use Rattle.list_laws.proofs.Members.{has_at, at_has}
use Rattle.list_laws.proofs.Places.{element}
use Rattle.rr_locs.specs.declared.firsts.Firsts.{Firsts}
use Rattle.rr_locs.specs.declared.roots.TileRoot.{TileRoot}
use Rattle.rr_locs.specs.declared.roots.LocAt.{LocAt}
use Rattle.rr_locs.specs.Firsts.{first_at, StartsAt, StartsNone, AreStarts, AreFirsts}
use Rattle.rr_locs.specs.Listing.{loc_of}
use Rattle.rr_locs.specs.Places.{Before, AreLocs, StandsNone, IsFirstAt}

stand_ordered : {X : Type 0} (Comes : X → X → Type 0) (xs : List X) → Ordered Comes xs → StandOrdered Comes xs
stand_ordered Comes [] each i j x y less at_i at_j = absurd (cc)
stand_ordered Comes (z ∷ zs) each zero zero x y less at_i at_j = absurd (omega arith)
stand_ordered Comes (z ∷ zs) each zero (suc j) x y less at_i at_j =
    let is : z ≡ x = cc in subst (λ v. Comes v y) is (each.0 y (has_at zs j y at_j))
stand_ordered Comes (z ∷ zs) each (suc i) zero x y less at_i at_j = absurd (omega arith)
stand_ordered Comes (z ∷ zs) each (suc i) (suc j) x y less at_i at_j = stand_ordered Comes zs each.1 i j x y (omega arith) at_i at_j

-- nothing at the same place comes before sub 0
none_earlier : (a b : LocAt) → Before a b → a.x ≡ b.x → a.y ≡ b.y → b.sub ≡ 0 → ⊥
none_earlier a b comes x y sub =
    elim comes [
      | inl low ↦ omega (arith, low, x)
      | inr p ↦ elim (p.1) [ inl low ↦ omega (arith, low, y) | inr q ↦ omega (arith, q.1, sub) ]
    ]

none_back : (a b : LocAt) → Before a b → a.x ≡ b.x → a.y ≡ b.y → b.sub < a.sub → ⊥
none_back a b comes x y sub =
    elim comes [
      | inl low ↦ omega (arith, low, x)
      | inr p ↦ elim (p.1) [ inl low ↦ omega (arith, low, y) | inr q ↦ omega (arith, q.1, sub) ]
    ]

-- nothing comes between two subs that follow each other
none_between : (a b c : LocAt) → Before a b → Before b c → a.x ≡ c.x → a.y ≡ c.y → c.sub ≡ suc (a.sub) → ⊥
none_between a b c ab bc x y sub =
    elim ab [
      | inl low ↦ elim bc [ inl high ↦ omega (arith, low, high, x) | inr q ↦ omega (arith, low, q.0, x) ]
      | inr p ↦ elim bc [
        | inl high ↦ omega (arith, p.0, high, x)
        | inr q ↦ elim (p.1) [
          | inl low ↦ elim (q.1) [ inl high ↦ omega (arith, low, high, y) | inr s ↦ omega (arith, low, s.0, y) ]
          | inr r ↦ elim (q.1) [ inl high ↦ omega (arith, r.0, high, y) | inr s ↦ omega (arith, r.1, s.1, sub) ]
        ]
      ]
    ]

module _ (roots : List TileRoot) (locs : List LocAt) (are : AreLocs roots locs) where
  in_order : (i j : ℕ) (a b : LocAt) → i < j → slice_get locs i ≡ Some a → slice_get locs j ≡ Some b → Before a b
  in_order i j a b less at_i at_j = stand_ordered Before locs are.ascend i j a b less at_i at_j

  -- where one stands, one of sub 0 does
  start_of : (loc : LocAt) → Has locs loc → Has locs (record { x = loc.x; y = loc.y; sub = 0; tile = loc.tile })
  start_of loc has =
      let is = are.only loc has in
      are.all (record { x = loc.x; y = loc.y; sub = 0; tile = loc.tile })
      (record { root = is.root; has = is.has; x = is.x; y = is.y; tile = is.tile; sub = omega (arith, is.sub) })

  pub starts_are_firsts : (f : Firsts) → AreStarts locs (length locs) f → AreFirsts locs f
  starts_are_firsts f kept x y = by (first_at f x y) (kept x y)
    where
      by : (o : Option ℕ) → MatchOption o (StartsNone locs (length locs) x y) (StartsAt locs x y) → MatchOption o (StandsNone locs x y) (IsFirstAt locs x y)
      by None none = λ loc has is_x is_y.
          let start = at_has locs (record { x = loc.x; y = loc.y; sub = 0; tile = loc.tile }) (start_of loc has) in
          none start.0 (slice_get_within locs start.0 (record { x = loc.x; y = loc.y; sub = 0; tile = loc.tile }) start.1)
          (record { loc = record { x = loc.x; y = loc.y; sub = 0; tile = loc.tile }; at = start.1; x_is = is_x; y_is = is_y; sub_is = refl })
      by (Some n) s = record {
        loc = s.loc;
        at = s.at;
        x_is = s.x_is;
        y_is = s.y_is;
        sub_is = s.sub_is;
        first = λ k other less at_k is_x is_y.
            none_earlier other s.loc (in_order k n other s.loc less at_k s.at) (is_x ∙ sym s.x_is) (is_y ∙ sym s.y_is) s.sub_is;
      }

  module _ (root : TileRoot) (has : Has roots root) (number : ℕ) (is : IsFirstAt locs root.x root.y number) where
    stands : (sub : ℕ) → sub < root.capacity → (k : ℕ) × (slice_get locs k ≡ Some (loc_of root sub))
    stands sub low = at_has locs (loc_of root sub)
        (are.all (loc_of root sub) (record { root = root; has = has; x = refl; y = refl; tile = refl; sub = low }))

    pub follow : (sub : ℕ) → sub < root.capacity → slice_get locs (number + sub) ≡ Some (loc_of root sub)
    follow zero low = by (stands zero low)
      where
        by : (k : ℕ) × (slice_get locs k ≡ Some (loc_of root zero)) → slice_get locs (number + zero) ≡ Some (loc_of root zero)
        by (k, at) = elim (cases_lt k number) [
          | inl less ↦ absurd (is.first k (loc_of root zero) less at refl refl)
          | inr most ↦ elim (cases_lt number k) [
            | inl more ↦ absurd (none_earlier is.loc (loc_of root zero) (in_order number k is.loc (loc_of root zero) more is.at at) is.x_is is.y_is refl)
            | inr least ↦ (let same : number + zero ≡ k = omega arith in ap (λ n. slice_get locs n) same ∙ at)
          ]
        ]
    follow (suc sub) low = by (stands (suc sub) low) (follow sub (omega arith))
      where
        by : (k : ℕ) × (slice_get locs k ≡ Some (loc_of root (suc sub))) → slice_get locs (number + sub) ≡ Some (loc_of root sub) →
            slice_get locs (number + suc sub) ≡ Some (loc_of root (suc sub))
        by (k, at) prior = elim (cases_lt k (number + sub)) [
          | inl less ↦ absurd (none_back (loc_of root (suc sub)) (loc_of root sub)
              (in_order k (number + sub) (loc_of root (suc sub)) (loc_of root sub) less at prior) refl refl (omega arith))
          | inr most ↦ elim (cases_lt k (number + suc sub)) [
            | inl near ↦ (let same : k ≡ number + sub = omega (arith, most, near) in
                let both : Some (loc_of root (suc sub)) ≡ Some (loc_of root sub) = sym at ∙ ap (λ n. slice_get locs n) same ∙ prior in
                let subs : suc sub ≡ sub = ap (λ l. l.sub) (let one : loc_of root (suc sub) ≡ loc_of root sub = cc in one) in
                absurd (omega arith))
            | inr far ↦ elim (cases_lt (number + suc sub) k) [
              | inl more ↦ (let other = element locs (number + suc sub) (omega (arith, slice_get_within locs k (loc_of root (suc sub)) at, more)) in
                  absurd (none_between (loc_of root sub) other.0 (loc_of root (suc sub))
                  (in_order (number + sub) (number + suc sub) (loc_of root sub) other.0 (omega arith) prior other.1)
                  (in_order (number + suc sub) k other.0 (loc_of root (suc sub)) more other.1 at) refl refl refl))
              | inr least ↦ (let same : number + suc sub ≡ k = omega (arith, far, least) in ap (λ n. slice_get locs n) same ∙ at)
            ]
          ]
        ]
