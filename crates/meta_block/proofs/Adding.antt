-- What owners say, and the first that is refused, in lists that are put together.
use Rattle.std.proofs.Common.{◌≡◌, ◌≤◌, ◌<◌, ◌+◌, ◌⊎◌, inl, inr, ℕ, zero, suc, List, [], ◌∷◌, ◌++◌, length, map, take, drop, get_or, append-nil, refl, sym, ap, ◌∙◌, subst, arith}
use Rattle.std.specs.List.{flat_map}
use Rattle.std.proofs.lemmas.List.{append_assoc, take_more, take_all}
use Rattle.meta_lines.specs.Each.{Each}
use Rattle.meta_block.specs.declared.types.OwnerSaid.{OwnerSaid}
use Rattle.meta_block.specs.declared.error.MetaError.{MetaError}
use Rattle.meta_block.specs.Owners.{Owner, SaysOwner, RefusesOwners}
use Rattle.meta_block.specs.Steps.{AddsSaid}

pub or_then : {A B C : Type 0} → (B → C) → A ⊎ B → A ⊎ C
or_then f (inl a) = inl a
or_then f (inr b) = inr (f b)

pub adds_none : (said : List OwnerSaid) → AddsSaid [] said said
adds_none said = record { more = []; say = refl; grown = sym (append-nil said) }

pub adds_one : (owner : Owner) (s : OwnerSaid) (old new : List OwnerSaid) → SaysOwner owner s → new ≡ old ++ s ∷ [] → AddsSaid (owner ∷ []) old new
adds_one owner s old new says grown = record { more = s ∷ []; say = (says, refl); grown = grown }

each_append : (xs ys : List Owner) (said more : List OwnerSaid) → Each SaysOwner xs said → Each SaysOwner ys more → Each SaysOwner (xs ++ ys) (said ++ more)
each_append [] ys said more e f = subst (λ (l : List OwnerSaid). Each SaysOwner ys (l ++ more)) (sym e) f
each_append (x ∷ xs) ys [] more e f = absurd e
each_append (x ∷ xs) ys (a ∷ said) more e f = (e.0, each_append xs ys said more e.1 f)

pub adds_then : (xs ys : List Owner) (a b c : List OwnerSaid) → AddsSaid xs a b → AddsSaid ys b c → AddsSaid (xs ++ ys) a c
adds_then xs ys a b c p q = record {
  more = p.more ++ q.more;
  say = each_append xs ys p.more q.more p.say q.say;
  grown = q.grown ∙ (ap (λ (l : List OwnerSaid). l ++ q.more) p.grown ∙ append_assoc a p.more q.more);
}

pub refuses_first : (xs ys : List Owner) (e : MetaError) → RefusesOwners xs e → RefusesOwners (xs ++ ys) e
refuses_first [] ys e refused = absurd refused
refuses_first (x ∷ xs) ys e (inl here) = inl here
refuses_first (x ∷ xs) ys e (inr later) = inr (later.0, later.1, refuses_first xs ys e later.2)

each_then : (xs ys : List Owner) (said : List OwnerSaid) (e : MetaError) → Each SaysOwner xs said → RefusesOwners ys e → RefusesOwners (xs ++ ys) e
each_then [] ys said e says refused = refused
each_then (x ∷ xs) ys [] e says refused = absurd says
each_then (x ∷ xs) ys (a ∷ said) e says refused = inr (a, says.0, each_then xs ys said e says.1 refused)

pub refuses_then : (xs ys : List Owner) (a b : List OwnerSaid) (e : MetaError) → AddsSaid xs a b → RefusesOwners ys e → RefusesOwners (xs ++ ys) e
refuses_then xs ys a b e added refused = each_then xs ys added.more e added.say refused

-- the parts of a list, one by one

module _ {X : Type 0} (f : X → List Owner) where
  flat_append : (xs ys : List X) → flat_map f (xs ++ ys) ≡ flat_map f xs ++ flat_map f ys
  flat_append [] ys = refl
  flat_append (x ∷ xs) ys = ap (λ (l : List Owner). f x ++ l) (flat_append xs ys) ∙ sym (append_assoc (f x) (flat_map f xs) (flat_map f ys))

  flat_one : (x : X) → flat_map f (x ∷ []) ≡ f x
  flat_one x = append-nil (f x)

  cut_at : (xs : List X) (n : ℕ) (x : X) → n < length xs → x ≡ get_or xs n x → xs ≡ take n xs ++ x ∷ drop (n + 1) xs
  cut_at [] n x within is = absurd (omega (arith, within))
  cut_at (y ∷ xs) zero x within is = ap (λ (z : X). z ∷ xs) (sym is)
  cut_at (y ∷ xs) (suc n) x within is =
      let next : suc (n + 1) ≡ suc n + 1 = omega arith in
      subst (λ m. y ∷ xs ≡ y ∷ (take n xs ++ x ∷ drop m (y ∷ xs))) next (ap (λ l. y ∷ l) (cut_at xs n x (omega (arith, within)) is))

  -- one part more
  pub adds_part : (xs : List X) (n : ℕ) (x : X) (a b c : List OwnerSaid) → n < length xs → x ≡ get_or xs n x → AddsSaid (flat_map f (take n xs)) a b → AddsSaid (f x) b c →
      AddsSaid (flat_map f (take (n + 1) xs)) a c
  adds_part xs n x a b c within is old new =
      let longer : take (n + 1) xs ≡ take n xs ++ x ∷ [] = take_more xs n x within ∙ ap (λ (y : X). take n xs ++ y ∷ []) (sym is) in
      let parts : flat_map f (take (n + 1) xs) ≡ flat_map f (take n xs) ++ f x =
      ap (flat_map f) longer ∙ (flat_append (take n xs) (x ∷ []) ∙ ap (λ (l : List Owner). flat_map f (take n xs) ++ l) (flat_one x)) in
      subst (λ (l : List Owner). AddsSaid l a c) (sym parts) (adds_then (flat_map f (take n xs)) (f x) a b c old new)

  -- a part is refused
  pub refuses_part : (xs : List X) (n : ℕ) (x : X) (a b : List OwnerSaid) (e : MetaError) → n < length xs → x ≡ get_or xs n x → AddsSaid (flat_map f (take n xs)) a b → RefusesOwners (f x) e →
      RefusesOwners (flat_map f xs) e
  refuses_part xs n x a b e within is old refused =
      let parts : flat_map f xs ≡ flat_map f (take n xs) ++ (f x ++ flat_map f (drop (n + 1) xs)) = ap (flat_map f) (cut_at xs n x within is) ∙ flat_append (take n xs) (x ∷ drop (n + 1) xs) in
      subst (λ (l : List Owner). RefusesOwners l e) (sym parts)
      (refuses_then (flat_map f (take n xs)) (f x ++ flat_map f (drop (n + 1) xs)) a b e old (refuses_first (f x) (flat_map f (drop (n + 1) xs)) e refused))

  pub adds_all : (xs : List X) (n : ℕ) (a b : List OwnerSaid) → length xs ≤ n → AddsSaid (flat_map f (take n xs)) a b → AddsSaid (flat_map f xs) a b
  adds_all xs n a b end old = subst (λ (l : List X). AddsSaid (flat_map f l) a b) (take_all n xs end) old

-- an owner a part
pub flat_single : {X : Type 0} (g : X → Owner) (xs : List X) → flat_map (λ x. g x ∷ []) xs ≡ map g xs
flat_single g [] = refl
flat_single g (x ∷ xs) = ap (λ l. g x ∷ l) (flat_single g xs)
