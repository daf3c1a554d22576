-- Names of siblings differ.
use Rattle.std.proofs.Common.{◌≡◌, ◌⊎◌, inl, inr, ℕ, List, [], ◌∷◌, ◌++◌, Some, codes, refl, sym, ◌∙◌, subst, map}
use Rattle.std.specs.List.{All, flat_map}
use Rattle.std.proofs.lemmas.List.Elements.{All-nil, All-cons, All-weaker}
use Rattle.std.proofs.lemmas.List.Kept.{AllPairs-cons}
use Rattle.elem_text.specs.declared.elem.Elem.{Elem}
use Rattle.arch_types.proofs.Once.{has_left, has_right}
use Rattle.arch_rules.specs.declared.role.Sort.{Sort}
use Rattle.arch_rules.specs.Elements.{text_at}
use Rattle.arch_rules.specs.Roles.{sort_of}
use Rattle.arch_rules.specs.Rules.{Inside, role_at, IsAmong}
use Rattle.arch_rules.specs.Walks.{AreFine, more, IsFineAt}
use Rattle.arch_types.specs.Names.{AreDifferent}
use Rattle.arch_laws.proofs.Lists.{pairs_nil}

-- the element gives nothing, or one thing of this sort with its name
abbrev pub Gives : {X : Type 0} → Inside → Sort → (X → List ℕ) → Elem → List X → Type 0
Gives {X} at sort named e xs = (xs ≡ []) ⊎ ((x : X) × (xs ≡ x ∷ []) × (sort_of (role_at at e) ≡ Some sort) × (text_at e (codes "name") ≡ named x))

abbrev pub IsNew : Inside → List Elem → Sort → List ℕ → Type 0
IsNew at before sort name = IsAmong at before sort name → ⊥

-- the names differ, also from those of the elements before
pub record AreNew (at : Inside) (before : List Elem) (sort : Sort) (names : List (List ℕ)) : Type 0 where
  pub different : AreDifferent names
  pub new : All (IsNew at before sort) names

among_more : (at : Inside) (before after : List Elem) (sort : Sort) (name : List ℕ) → IsAmong at before sort name → IsAmong at (before ++ after) sort name
among_more at before after sort name among = record {
  first = among.first;
  earlier = has_left before after among.first among.earlier;
  sorted = among.sorted;
  named = among.named;
}

pub among_later : (at : Inside) (before after : List Elem) (sort : Sort) (name : List ℕ) → IsAmong at after sort name → IsAmong at (before ++ after) sort name
among_later at before after sort name among = record {
  first = among.first;
  earlier = has_right before after among.first among.earlier;
  sorted = among.sorted;
  named = among.named;
}

pub still_new : (at : Inside) (before after : List Elem) (sort : Sort) (names : List (List ℕ)) → All (IsNew at (before ++ after) sort) names → All (IsNew at before sort) names
still_new at before after sort names new =
    All-weaker (IsNew at (before ++ after) sort) (IsNew at before sort) (λ n no among. no (among_more at before after sort n among)) names new

one_more : {X : Type 0} (at : Inside) (sort : Sort) (named : X → List ℕ) (before : List Elem) (e : Elem) (xs ys : List X) → IsFineAt at before e →
    Gives at sort named e xs → AreNew at (before ++ e ∷ []) sort (map named ys) → AreNew at before sort (map named (xs ++ ys))
one_more at sort named before e xs ys own (inl nothing) later =
    subst (λ l. AreNew at before sort (map named (l ++ ys))) (sym nothing)
    (record { different = later.different; new = still_new at before (e ∷ []) sort (map named ys) later.new })
one_more {X} at sort named before e xs ys own (inr gives) later =
    subst (λ l. AreNew at before sort (map named (l ++ ys))) (sym gives.1) (record {
      different = AllPairs-cons (λ a b. (a ≡ b) → ⊥) (named gives.0) (map named ys)
          (All-weaker (IsNew at (before ++ e ∷ []) sort) (λ n. (named gives.0 ≡ n) → ⊥) (λ n no same. no (here n same)) (map named ys) later.new) later.different;
      new = All-cons (IsNew at before sort) (named gives.0) (map named ys) first (still_new at before (e ∷ []) sort (map named ys) later.new);
    })
  where
    here : (n : List ℕ) → named gives.0 ≡ n → IsAmong at (before ++ e ∷ []) sort n
    here n same = record { first = e; earlier = has_right before (e ∷ []) e (inl refl); sorted = gives.2; named = gives.3 ∙ same }

    first : IsNew at before sort (named gives.0)
    first among = own.0.0.1 (inl (sort, gives.2, subst (λ n. IsAmong at before sort n) (sym gives.3) among))

pub siblings : {X : Type 0} (sort : Sort) (named : X → List ℕ) (f : Elem → List X) (at : Inside) (before elems : List Elem) → AreFine at before elems →
    ((before : List Elem) (e : Elem) → IsFineAt at before e → Gives at sort named e (f e)) → AreNew at before sort (map named (flat_map f elems))
siblings sort named f at before [] fine gives = record { different = pairs_nil (λ a b. (a ≡ b) → ⊥); new = All-nil (IsNew at before sort) }
siblings sort named f at before (e ∷ rest) (more _ _ _ _ own deep tail) gives =
    one_more at sort named before e (f e) (flat_map f rest) own (gives before e own) (siblings sort named f at (before ++ e ∷ []) rest tail gives)

one_among : {X : Type 0} (at : Inside) (sort : Sort) (named : X → List ℕ) (e : Elem) (rest : List Elem) (xs ys : List X) →
    Gives at sort named e xs → All (IsAmong at rest sort) (map named ys) → All (IsAmong at (e ∷ rest) sort) (map named (xs ++ ys))
one_among at sort named e rest xs ys gives later = by gives
  where
    more_later : All (IsAmong at (e ∷ rest) sort) (map named ys)
    more_later = All-weaker (IsAmong at rest sort) (IsAmong at (e ∷ rest) sort) (λ n among. among_later at (e ∷ []) rest sort n among) (map named ys) later

    by : Gives at sort named e xs → All (IsAmong at (e ∷ rest) sort) (map named (xs ++ ys))
    by (inl nothing) = subst (λ l. All (IsAmong at (e ∷ rest) sort) (map named (l ++ ys))) (sym nothing) more_later
    by (inr gives) =
        subst (λ l. All (IsAmong at (e ∷ rest) sort) (map named (l ++ ys))) (sym gives.1)
        (All-cons (IsAmong at (e ∷ rest) sort) (named gives.0) (map named ys) (record { first = e; earlier = inl refl; sorted = gives.2; named = gives.3 }) more_later)

-- each of the names is that of one of the elements
pub all_among : {X : Type 0} (sort : Sort) (named : X → List ℕ) (f : Elem → List X) (at : Inside) (before elems : List Elem) → AreFine at before elems →
    ((before : List Elem) (e : Elem) → IsFineAt at before e → Gives at sort named e (f e)) → All (IsAmong at elems sort) (map named (flat_map f elems))
all_among sort named f at before [] fine gives = All-nil (IsAmong at [] sort)
all_among sort named f at before (e ∷ rest) (more _ _ _ _ own deep tail) gives =
    one_among at sort named e rest (f e) (flat_map f rest) (gives before e own) (all_among sort named f at (before ++ e ∷ []) rest tail gives)
