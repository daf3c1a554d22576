-- A table of children by name, with one child more.
use Rattle.std.proofs.Common.{◌≡◌, ◌<◌, ◌+◌, ◌⊎◌, ◌↔◌, inl, inr, ℕ, zero, suc, List, [], ◌∷◌, ◌++◌, Some, slice_get, length, take, get_or, map, refl, sym, ap, ◌∙◌, subst, arith}
use Rattle.std.proofs.Math.ListN.{set, length-set}
use Rattle.std.proofs.lemmas.List.{take_more}
use Rattle.std.proofs.lemmas.Option.{slice_get_within}
use Rattle.std.proofs.lemmas.Grind.{common_steps}
use Rattle.vtr_base.specs.Lists.{Has, IsFirstPlace}
use Rattle.list_laws.specs.Orders.{Once}
use Rattle.list_laws.proofs.Members.{has_at, at_has, has_left, has_last, has_pushed}
use Rattle.list_laws.proofs.Places.{get_either}
use Rattle.list_laws.proofs.Onces.{once_at}
use Rattle.arch_types.specs.declared.block.PbType.{PbType}
use Rattle.lut_widths.specs.declared.sizes.LutSizes.{LutSizes}
use Rattle.lut_widths.specs.declared.reach.Reach.{Reach}
use Rattle.lut_widths.specs.Sizes.{AreSizes, InChild}
use Rattle.lut_widths.specs.Reaches.{IsReach, reach_with_sizes}
use Rattle.lut_widths.specs.Tables.{StandsIn, AreReaches}
use Rattle.lut_widths.proofs.Reaching.{reach_of, reach_alike, reach_nowhere, reach_more_sizes}

some_one : {X : Type 0} (x y : X) → Some x ≡ Some y → x ≡ y
some_one x y e = cc

-- what was written stands at its place
pub set_get : {X : Type 0} (xs : List X) (n m : ℕ) (y z : X) → slice_get (set xs n y) m ≡ Some z → ((m ≡ n) × (z ≡ y)) ⊎ ((m ≡ n → ⊥) × (slice_get xs m ≡ Some z))
set_get [] n m y z e = absurd (cc)
set_get (x ∷ xs) zero zero y z e = inl (refl, cc)
set_get (x ∷ xs) zero (suc m) y z e = inr (λ same. absurd (omega (arith, same)), e)
set_get (x ∷ xs) (suc n) zero y z e = inr (λ same. absurd (omega (arith, same)), e)
set_get (x ∷ xs) (suc n) (suc m) y z e =
    elim (set_get xs n m y z e) [ inl here ↦ inl (ap suc here.0, here.1) | inr there ↦ inr (λ same. there.0 (omega (arith, same)), there.1) ]

-- LUTs in one child more

abbrev Here : PbType → List ℕ → ℕ → ℕ → Type 0
Here kid name k i = (kid.name ≡ name) × (i < kid.count) × InChild kid k

stands_more : (kids : List PbType) (kid : PbType) (name : List ℕ) (k i : ℕ) → (StandsIn kids name k i ⊎ Here kid name k i) ↔ StandsIn (kids ++ kid ∷ []) name k i
stands_more kids kid name k i = (forth, λ s. back s (has_pushed kids kid s.kid s.among))
  where
    forth : StandsIn kids name k i ⊎ Here kid name k i → StandsIn (kids ++ kid ∷ []) name k i
    forth (inl s) = record { kid = s.kid; among = has_left kids (kid ∷ []) s.kid s.among; named = s.named; inside = s.inside; holds = s.holds }
    forth (inr h) = record { kid = kid; among = has_last kids kid; named = h.0; inside = h.1; holds = h.2 }

    back : (s : StandsIn (kids ++ kid ∷ []) name k i) → Has kids s.kid ⊎ (s.kid ≡ kid) → StandsIn kids name k i ⊎ Here kid name k i
    back s (inl front) = inl (record { kid = s.kid; among = front; named = s.named; inside = s.inside; holds = s.holds })
    back s (inr last) = inr (subst (λ (p : PbType). Here p name k i) last (s.named, s.inside, s.holds))

-- of another name
other_stands : (kids : List PbType) (kid : PbType) (name : List ℕ) (r : Reach) → (kid.name ≡ name → ⊥) → IsReach (StandsIn kids name) r → IsReach (StandsIn (kids ++ kid ∷ []) name) r
other_stands kids kid name r other old = reach_alike (StandsIn kids name) (StandsIn (kids ++ kid ∷ []) name) r (λ k i. (λ s. (stands_more kids kid name k i).0 (inl s), λ s. by k i ((stands_more kids kid name k i).1 s))) old
  where
    by : (k i : ℕ) → StandsIn kids name k i ⊎ Here kid name k i → StandsIn kids name k i
    by k i (inl s) = s
    by k i (inr h) = absurd (other h.0)

-- of that name
same_stands : (kids : List PbType) (kid : PbType) (r : Reach) (s : LutSizes) → AreSizes (InChild kid) s → IsReach (StandsIn kids kid.name) r →
    IsReach (StandsIn (kids ++ kid ∷ []) kid.name) (reach_with_sizes r s kid.count)
same_stands kids kid r s sizes old =
    reach_alike (λ k i. StandsIn kids kid.name k i ⊎ ((i < kid.count) × InChild kid k)) (StandsIn (kids ++ kid ∷ []) kid.name) (reach_with_sizes r s kid.count)
    (λ k i. (forth k i, λ st. back k i ((stands_more kids kid kid.name k i).1 st))) (reach_more_sizes (StandsIn kids kid.name) (InChild kid) r s kid.count old sizes)
  where
    forth : (k i : ℕ) → StandsIn kids kid.name k i ⊎ ((i < kid.count) × InChild kid k) → StandsIn (kids ++ kid ∷ []) kid.name k i
    forth k i (inl st) = (stands_more kids kid kid.name k i).0 (inl st)
    forth k i (inr new) = (stands_more kids kid kid.name k i).0 (inr (refl, new.0, new.1))

    back : (k i : ℕ) → StandsIn kids kid.name k i ⊎ Here kid kid.name k i → StandsIn kids kid.name k i ⊎ ((i < kid.count) × InChild kid k)
    back k i (inl st) = inl st
    back k i (inr here) = inr (here.1, here.2)

-- a child whose name is known
pub known_kid : (kids : List PbType) (kid : PbType) (names : List (List ℕ)) (reaches : List Reach) (n : ℕ) (r : Reach) (s : LutSizes) → Once names → IsFirstPlace names kid.name n →
    slice_get reaches n ≡ Some r → AreSizes (InChild kid) s → AreReaches kids names reaches → AreReaches (kids ++ kid ∷ []) names (set reaches n (reach_with_sizes r s kid.count))
known_kid kids kid names reaches n r s once found at sizes old = record {
  long = length-set reaches n (reach_with_sizes r s kid.count) ∙ old.long;
  each = λ m name q there got. each m name q there (set_get reaches n m (reach_with_sizes r s kid.count) q got);
  known = λ p has. known p (has_pushed kids kid p has);
}
  where
    known : (p : PbType) → Has kids p ⊎ (p ≡ kid) → Has names p.name
    known p (inl front) = old.known p front
    known p (inr last) = has_at names n p.name (found.there ∙ ap (λ (x : PbType). Some x.name) (sym last))

    each : (m : ℕ) (name : List ℕ) (q : Reach) → slice_get names m ≡ Some name → ((m ≡ n) × (q ≡ reach_with_sizes r s kid.count)) ⊎ ((m ≡ n → ⊥) × (slice_get reaches m ≡ Some q)) →
        IsReach (StandsIn (kids ++ kid ∷ []) name) q
    each m name q there (inl here) =
        let named : kid.name ≡ name = some_one kid.name name (sym found.there ∙ ap (slice_get names) (sym here.0) ∙ there) in
        subst (λ (x : Reach). IsReach (StandsIn (kids ++ kid ∷ []) name) x) (sym here.1)
        (subst (λ (x : List ℕ). IsReach (StandsIn (kids ++ kid ∷ []) x) (reach_with_sizes r s kid.count)) named (same_stands kids kid r s sizes (old.each n kid.name r found.there at)))
    each m name q there (inr other) =
        other_stands kids kid name q (λ same. other.0 (once_at names once m n name there (found.there ∙ ap Some same))) (old.each m name q there other.1)

-- a child whose name is new
pub new_kid : (kids : List PbType) (kid : PbType) (names : List (List ℕ)) (reaches : List Reach) (s : LutSizes) → ((n : ℕ) → slice_get names n ≡ Some kid.name → ⊥) →
    AreSizes (InChild kid) s → AreReaches kids names reaches → AreReaches (kids ++ kid ∷ []) (names ++ kid.name ∷ []) (reaches ++ reach_with_sizes (reach_of 0 0 0) s kid.count ∷ [])
new_kid kids kid names reaches s fresh sizes old = record {
  long = longer;
  each = λ m name q there got. each m name q (get_either names (kid.name ∷ []) m name there) (get_either reaches (new ∷ []) m q got);
  known = λ p has. known p (has_pushed kids kid p has);
}
  where
    new : Reach
    new = reach_with_sizes (reach_of 0 0 0) s kid.count

    longer : length (reaches ++ new ∷ []) ≡ length (names ++ kid.name ∷ [])
    longer = let h = old.long in grind (arith, common_steps)

    known : (p : PbType) → Has kids p ⊎ (p ≡ kid) → Has (names ++ kid.name ∷ []) p.name
    known p (inl front) = has_left names (kid.name ∷ []) p.name (old.known p front)
    known p (inr last) = subst (Has (names ++ kid.name ∷ [])) (ap (λ (x : PbType). x.name) (sym last)) (has_last names kid.name)

    none : (k i : ℕ) → StandsIn kids kid.name k i → ⊥
    none k i st = let at = at_has names kid.name (subst (Has names) st.named (old.known st.kid st.among)) in fresh at.0 at.1

    first : {X : Type 0} (x y : X) (j : ℕ) → slice_get (x ∷ []) j ≡ Some y → (j ≡ 0) × (x ≡ y)
    first x y zero e = (refl, cc)
    first x y (suc j) e = absurd (cc)

    last : (name : List ℕ) (q : Reach) (i j : ℕ) → slice_get (kid.name ∷ []) i ≡ Some name → slice_get (new ∷ []) j ≡ Some q → IsReach (StandsIn (kids ++ kid ∷ []) name) q
    last name q i j there got =
        let named = first kid.name name i there in
        let is = first new q j got in
        subst (λ (x : Reach). IsReach (StandsIn (kids ++ kid ∷ []) name) x) is.1
        (subst (λ (x : List ℕ). IsReach (StandsIn (kids ++ kid ∷ []) x) new) named.1 (same_stands kids kid (reach_of 0 0 0) s sizes (reach_nowhere (StandsIn kids kid.name) none)))

    each : (m : ℕ) (name : List ℕ) (q : Reach) → (slice_get names m ≡ Some name) ⊎ ((j : ℕ) × (m ≡ length names + j) × (slice_get (kid.name ∷ []) j ≡ Some name)) →
        (slice_get reaches m ≡ Some q) ⊎ ((j : ℕ) × (m ≡ length reaches + j) × (slice_get (new ∷ []) j ≡ Some q)) → IsReach (StandsIn (kids ++ kid ∷ []) name) q
    each m name q (inl there) (inl got) = other_stands kids kid name q (λ same. fresh m (there ∙ ap Some (sym same))) (old.each m name q there got)
    each m name q (inl there) (inr past) = let w = slice_get_within names m name there in let h = old.long in absurd (omega (arith, w, h, past.1))
    each m name q (inr past) (inl got) = let w = slice_get_within reaches m q got in let h = old.long in absurd (omega (arith, w, h, past.1))
    each m name q (inr past) (inr also) = last name q past.0 also.0 past.2 also.2

pub no_kids : AreReaches [] [] []
no_kids = record { long = refl; each = λ n name r there at. absurd (nothing n name there); known = λ kid has. absurd has }
  where
    nothing : (n : ℕ) (name : List ℕ) → slice_get [] n ≡ Some name → ⊥
    nothing n name e = cc

-- one item more of a list that is mapped
pub map_taken : {A B : Type 0} (f : A → B) (xs : List A) (n : ℕ) (x : A) → n < length xs → x ≡ get_or xs n x → map f (take (n + 1) xs) ≡ map f (take n xs) ++ f x ∷ []
map_taken {A} f xs n x within is =
    ap (λ (l : List A). map f l) (take_more xs n x within ∙ ap (λ (y : A). take n xs ++ y ∷ []) (sym is)) ∙ appended (take n xs)
  where
    appended : (ys : List A) → map f (ys ++ x ∷ []) ≡ map f ys ++ f x ∷ []
    appended [] = refl
    appended (y ∷ ys) = ap (λ l. f y ∷ l) (appended ys)
