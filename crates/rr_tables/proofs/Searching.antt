-- What a search by a test finds, where one element at most passes.
use Rattle.std.proofs.Common.{◌≡◌, ◌&&◌, ◌||◌, ◌⊎◌, ℕ, zero, suc, Bool, true, false, cond, nat_eq, List, [], ◌∷◌, Option, Some, None, MatchOption, map, slice_get, position, refl, sym, ap, ◌∙◌, subst, inl, inr, arith}
use Rattle.std.specs.List.{find, list_any}
use Rattle.std.proofs.lemmas.Bool.{false≢true}
use Rattle.std.proofs.lemmas.Bool.Decides.{nat_tests}
use Rattle.vtr_base.specs.Lists.{Has}
use Rattle.list_laws.specs.Orders.{Once, Ordered}
use Rattle.list_laws.proofs.Members.{has_map, from_map}
use Rattle.list_laws.proofs.Onces.{once_at}
use Rattle.list_laws.proofs.Searches.{position_says}

pub nat_same : (m n : ℕ) → nat_eq m n ≡ true → m ≡ n
nat_same m n e = grind (arith, nat_tests)

pub nat_itself : (m n : ℕ) → m ≡ n → nat_eq m n ≡ true
nat_itself m n e = grind (arith, nat_tests)

pub both : (a b : Bool) → a ≡ true → b ≡ true → (a && b) ≡ true
both true b is_a is_b = is_b
both false b is_a is_b = absurd (false≢true is_a)

pub of_both : (a b : Bool) → (a && b) ≡ true → (a ≡ true) × (b ≡ true)
of_both true b e = (refl, e)
of_both false b e = absurd (false≢true e)

pub none_found : {X : Type 0} (p : X → Bool) (xs : List X) → ((x : X) → Has xs x → p x ≡ true → ⊥) → find p xs ≡ None
none_found p [] none = refl
none_found {X} p (x ∷ xs) none = by (p x) refl (none_found p xs (λ y has. none y (inr has)))
  where
    by : (b : Bool) → p x ≡ b → find p xs ≡ None → cond b (Some x) (find p xs) ≡ None
    by true passes rest = absurd (none x (inl refl) passes)
    by false fails rest = rest

pub found_by : {X : Type 0} (p : X → Bool) (xs : List X) (x : X) → Has xs x → p x ≡ true →
    ((y : X) → Has xs y → p y ≡ true → y ≡ x) → find p xs ≡ Some x
found_by p [] x has passes only = absurd has
found_by {X} p (y ∷ ys) x has passes only = by (λ later. found_by p ys x later passes (λ z there. only z (inr there))) (p y) refl has
  where
    by : (Has ys x → find p ys ≡ Some x) → (b : Bool) → p y ≡ b → (x ≡ y) ⊎ Has ys x → cond b (Some y) (find p ys) ≡ Some x
    by rest true t where_is = ap Some (only y (inl refl) t)
    by rest false f (inl is) = absurd (false≢true (sym f ∙ ap p (sym is) ∙ passes))
    by rest false f (inr later) = rest later

pub found_is : {X : Type 0} (p : X → Bool) (xs : List X) (x : X) → find p xs ≡ Some x → Has xs x × (p x ≡ true)
found_is p [] x found = absurd (cc)
found_is {X} p (y ∷ ys) x found = by (found_is p ys x) (p y) refl found
  where
    by : (find p ys ≡ Some x → Has ys x × (p x ≡ true)) → (b : Bool) → p y ≡ b → cond b (Some y) (find p ys) ≡ Some x → Has (y ∷ ys) x × (p x ≡ true)
    by later true t e = (let is : y ≡ x = cc in (inl (sym is), ap p (sym is) ∙ t))
    by later false f e = (let rest = later e in (inr rest.0, rest.1))

pub any_has : {X : Type 0} (p : X → Bool) (xs : List X) (x : X) → Has xs x → p x ≡ true → list_any p xs ≡ true
any_has p [] x has passes = absurd has
any_has {X} p (y ∷ ys) x has passes = by (λ later. any_has p ys x later passes) (p y) refl has
  where
    by : (Has ys x → list_any p ys ≡ true) → (b : Bool) → p y ≡ b → (x ≡ y) ⊎ Has ys x → (b || list_any p ys) ≡ true
    by rest true t where_is = refl
    by rest false f (inl is) = absurd (false≢true (sym f ∙ ap p (sym is) ∙ passes))
    by rest false f (inr later) = rest later

pub one_key : {X K : Type 0} (key : X → K) (xs : List X) → Once (map key xs) → (x y : X) → Has xs x → Has xs y → key x ≡ key y → x ≡ y
one_key key [] once x y has_x has_y same = absurd has_x
one_key key (z ∷ zs) once x y (inl is_x) (inl is_y) same = is_x ∙ sym is_y
one_key key (z ∷ zs) once x y (inl is_x) (inr has_y) same =
    absurd (once.0 (subst (Has (map key zs)) (sym same ∙ ap key is_x) (has_map key zs y has_y)))
one_key key (z ∷ zs) once x y (inr has_x) (inl is_y) same =
    absurd (once.0 (subst (Has (map key zs)) (same ∙ ap key is_y) (has_map key zs x has_x)))
one_key key (z ∷ zs) once x y (inr has_x) (inr has_y) same = one_key key zs once.1 x y has_x has_y same

-- an element with its view
pub record Seen {X Y : Type 0} (view : X → Y) (xs : List X) (n : ℕ) (y : Y) : Type 0 where
  pub item : X
  pub at : slice_get xs n ≡ Some item
  pub is : view item ≡ y

pub seen_at : {X Y : Type 0} (view : X → Y) (xs : List X) (n : ℕ) (y : Y) → slice_get (map view xs) n ≡ Some y → Seen view xs n y
seen_at view [] n y at = absurd (cc)
seen_at view (x ∷ xs) zero y at = record { item = x; at = refl; is = cc }
seen_at view (x ∷ xs) (suc n) y at =
    let rest = seen_at view xs n y at in
    record { item = rest.item; at = rest.at; is = rest.is }

pub at_seen : {X Y : Type 0} (view : X → Y) (xs : List X) (n : ℕ) (x : X) → slice_get xs n ≡ Some x → slice_get (map view xs) n ≡ Some (view x)
at_seen view [] n x at = cc
at_seen view (z ∷ zs) zero x at = (let is : z ≡ x = cc in ap (λ v. Some (view v)) is)
at_seen view (z ∷ zs) (suc n) x at = at_seen view zs n x at

-- an order whose elements differ in their views
pub once_seen : {X Y : Type 0} (Before : X → X → Type 0) (view : X → Y) → ((a b : X) → Before a b → view a ≡ view b → ⊥) → (xs : List X) → Ordered Before xs → Once (map view xs)
once_seen Before view apart [] ordered = tt
once_seen Before view apart (x ∷ xs) ordered =
    (λ has. (let later = from_map view xs (view x) has in apart x later.item (ordered.0 later.item later.has) later.is), once_seen Before view apart xs ordered.1)

-- the place that a search answers, where views differ
pub position_is : {X Y : Type 0} (p : X → Bool) (view : X → Y) (y : Y) → ((x : X) → p x ≡ true → view x ≡ y) → ((x : X) → view x ≡ y → p x ≡ true) →
    (xs : List X) → Once (map view xs) → (n : ℕ) → slice_get (map view xs) n ≡ Some y → position p xs ≡ Some n
position_is {X} {Y} p view y only all xs once n at = by (position p xs) (position_says p view y only all xs (position p xs) refl)
  where
    by : (r : Option ℕ) → MatchOption r ((m : ℕ) → slice_get (map view xs) m ≡ Some y → ⊥) (λ m. slice_get (map view xs) m ≡ Some y) → r ≡ Some n
    by None none = absurd (none n at)
    by (Some m) there = ap Some (once_at (map view xs) once m n y there at)

pub position_has : {X Y : Type 0} (p : X → Bool) (view : X → Y) (y : Y) → ((x : X) → p x ≡ true → view x ≡ y) → ((x : X) → view x ≡ y → p x ≡ true) →
    (xs : List X) (n : ℕ) → position p xs ≡ Some n → Seen view xs n y
position_has p view y only all xs n is = seen_at view xs n y (position_says p view y only all xs (Some n) (sym is))
