-- Steps from one tree to the next.
use Rattle.std.proofs.Common.{◌≡◌, ◌<◌, inl, inr, ℕ, zero, suc, List, [], ◌∷◌, ◌++◌, Some, None, map, length, slice_get, refl, sym, ap, ◌∙◌, subst, append_assoc, arith}
use Rattle.vtr_base.specs.Lists.{Has}
use Rattle.list_laws.proofs.Members.{has_right}
use Rattle.pb_expand.specs.Graph.{Graph}
use Rattle.task_types.specs.declared.task.Task.{Task}
use Rattle.task_types.specs.declared.tree.Var.{Var}
use Rattle.task_types.specs.declared.decision.Decision.{Decision}
use Rattle.task_types.specs.Options.{options, IsLiveVar, IsUndecided}
use Rattle.task_types.specs.Nodes.{IsBranch}
use Rattle.task_types.specs.Trees.{children}
use Rattle.pb_expand.specs.Expansion.{IsExpansion}
use Rattle.pb_expand.specs.OneOwner.{HasOneOwner}
use Rattle.task_trail.specs.Decided.{Decided, decided_on, IsFree}
use Rattle.task_options.specs.Choosing.{var_of, IsNextIn}
use Rattle.tree_steps.specs.Owing.{Owes, StandsAt, Keeps, Advances, IsPath}
use Rattle.tree_steps.proofs.Path.{var_same, free_option}

-- where a loop that takes decisions back stands
pub record IsOnWay (g : Graph) (t : Task) (old now : Decided) : Type 0 where
  pub sizes : now ≡ decided_on now.made old.instances old.pins old.atoms
  pub path : IsPath g t now.made
  pub keeps : Keeps g t old.made now.made

-- a child for each option
pub each_child : (made : List Decision) (kids : ℕ) (os : List Decision) → kids ≡ length os → children made kids os ≡ map (λ o. o ∷ made) os
each_child made zero [] is = refl
each_child made zero (o ∷ os) is = absurd (omega arith)
each_child made (suc kids) [] is = absurd (omega arith)
each_child made (suc kids) (o ∷ os) is = ap (λ rest. (o ∷ made) ∷ rest) (each_child made kids os (omega arith))

first_of : {X : Type 0} (xs : List X) (x : X) → slice_get xs 0 ≡ Some x → (rest : List X) × (xs ≡ x ∷ rest)
first_of [] x is = absurd (let bad : ⊥ = cc is in bad)
first_of (y ∷ xs) x is = let same : y ≡ x = cc is in (xs, ap (λ z. z ∷ xs) same)

none_of : {X : Type 0} (xs : List X) → None ≡ slice_get xs 0 → xs ≡ []
none_of [] is = refl
none_of (y ∷ xs) is = absurd (let bad : ⊥ = cc is in bad)

module _ (g : Graph) (t : Task) (made : List Decision) where
  -- down to the first option of a branch
  pub enters : (v : Var) (first : Decision) (rest : List Decision) (todo : List (List Decision)) → IsLiveVar g t made v → IsUndecided made v → options g t made v ≡ first ∷ rest → Owes g t made todo →
      Owes g t (first ∷ made) (map (λ o. o ∷ made) rest ++ todo)
  enters v first rest todo live none is owes =
      let same : var_of first ≡ v = var_same g t made v first (subst (λ os. Has os first) (sym is) (inl refl)) in (
        todo,
        record {
          live = subst (λ x. IsLiveVar g t made x) (sym same) live;
          undecided = subst (λ x. IsUndecided made x) (sym same) none;
          before = [];
          rest = rest;
          options = ap (λ x. options g t made x) same ∙ is;
          is = refl;
        },
        owes,
      )

  module _ (last : Decision) where
    -- on to the next option
    pub next_is : (next : Decision) (todo : List (List Decision)) → IsNextIn (options g t made (var_of last)) last (Some next) → Owes g t (last ∷ made) todo → StandsAt g t (next ∷ made) todo
    next_is next todo of owes =
        let owed = owes.1 in
        let at = first_of owed.rest next (sym (of.each owed.before owed.rest owed.options)) in
        let split : options g t made (var_of last) ≡ (owed.before ++ last ∷ []) ++ next ∷ at.0 = owed.options ∙ ap (λ xs. owed.before ++ last ∷ xs) at.1 ∙ sym (append_assoc owed.before (last ∷ []) (next ∷ at.0)) in
        let same : var_of next ≡ var_of last = var_same g t made (var_of last) next (subst (λ os. Has os next) (sym split) (has_right (owed.before ++ last ∷ []) (next ∷ at.0) next (inl refl))) in
        let is : todo ≡ (next ∷ made) ∷ (map (λ o. o ∷ made) at.0 ++ owes.0) = owed.is ∙ ap (λ xs. map (λ o. o ∷ made) xs ++ owes.0) at.1 in
        subst (λ ts. StandsAt g t (next ∷ made) ts) (sym is) (
          refl,
          (
            owes.0,
            record {
              live = subst (λ x. IsLiveVar g t made x) (sym same) owed.live;
              undecided = subst (λ x. IsUndecided made x) (sym same) owed.undecided;
              before = owed.before ++ last ∷ [];
              rest = at.0;
              options = ap (λ x. options g t made x) same ∙ split;
              is = refl;
            },
            owes.2,
          ),
        )

    pub next_has : (next : Decision) (todo : List (List Decision)) → IsNextIn (options g t made (var_of last)) last (Some next) → Owes g t (last ∷ made) todo → Has (options g t made (var_of last)) next
    next_has next todo of owes =
        let owed = owes.1 in
        let at = first_of owed.rest next (sym (of.each owed.before owed.rest owed.options)) in
        subst (λ os. Has os next) (sym (owed.options ∙ ap (λ xs. owed.before ++ last ∷ xs) at.1))
        (has_right owed.before (last ∷ next ∷ at.0) next (inr (inl refl)))

    -- up where no option is left
    pub none_left : (todo : List (List Decision)) → IsNextIn (options g t made (var_of last)) last None → Owes g t (last ∷ made) todo → Owes g t made todo
    none_left todo of owes =
        let owed = owes.1 in
        let none = none_of owed.rest (of.each owed.before owed.rest owed.options) in
        let is : todo ≡ owes.0 = owed.is ∙ ap (λ xs. map (λ o. o ∷ made) xs ++ owes.0) none in
        subst (λ ts. Owes g t made ts) (sym is) owes.2

-- a decision is taken back
module _ (g : Graph) (t : Task) (old now new : Decided) (last : Decision) (on : IsOnWay g t old now) (back : (now ≡ decided_on (last ∷ new.made) new.instances new.pins new.atoms) × IsFree new last) where
  owes_now : (todo : List (List Decision)) → Owes g t now.made todo → Owes g t (last ∷ new.made) todo
  owes_now todo owes = subst (λ (d : Decided). Owes g t d.made todo) back.0 owes

  back_sizes : new ≡ decided_on new.made old.instances old.pins old.atoms
  back_sizes =
      let i : new.instances ≡ old.instances = ap (λ (d : Decided). d.instances) (sym back.0 ∙ on.sizes) in
      let p : new.pins ≡ old.pins = ap (λ (d : Decided). d.pins) (sym back.0 ∙ on.sizes) in
      let a : new.atoms ≡ old.atoms = ap (λ (d : Decided). d.atoms) (sym back.0 ∙ on.sizes) in
      ap (λ n. decided_on new.made n new.pins new.atoms) i ∙ ap (λ n. decided_on new.made old.instances n new.atoms) p ∙ ap (λ n. decided_on new.made old.instances old.pins n) a

  pub next_free : (next : Decision) → IsExpansion g → HasOneOwner g → old.instances ≡ length g.instances → old.pins ≡ length g.pins → old.atoms ≡ length t.atoms →
      IsNextIn (options g t new.made (var_of last)) last (Some next) → IsFree new next
  next_free next law owners i p a of =
      let owes = owes_now on.path.0 on.path.1 in
      let free = free_option g t law owners new.made owes.0 owes.2 (var_of last) next owes.1.live owes.1.undecided (next_has g t new.made last next on.path.0 of owes) in
      let same : decided_on new.made (length g.instances) (length g.pins) (length t.atoms) ≡ new =
      ap (λ n. decided_on new.made n (length g.pins) (length t.atoms)) (sym i) ∙ ap (λ n. decided_on new.made old.instances n (length t.atoms)) (sym p) ∙ ap (λ n. decided_on new.made old.instances old.pins n) (sym a) ∙ sym back_sizes in
      subst (λ d. IsFree d next) same free

  pub advanced : (next : Decision) (made : List Decision) → made ≡ next ∷ new.made → IsNextIn (options g t new.made (var_of last)) last (Some next) → Advances g t old.made made
  advanced next made is of = record {
    each = λ todo owes. subst (λ m. StandsAt g t m todo) (sym is) (next_is g t new.made last next todo of (owes_now todo (on.keeps.each todo owes)));
  }

  pub gone_back : IsNextIn (options g t new.made (var_of last)) last None → IsOnWay g t old new
  gone_back of = record {
    sizes = back_sizes;
    path = (on.path.0, none_left g t new.made last on.path.0 of (owes_now on.path.0 on.path.1));
    keeps = record { each = λ todo owes. none_left g t new.made last todo of (owes_now todo (on.keeps.each todo owes)) };
  }

-- a branch is entered

module _ (g : Graph) (t : Task) (now : Decided) (path : IsPath g t now.made) (v : Var) (branch : (kids : ℕ) × IsBranch g t now.made v kids) where
  pub first_free : (first : Decision) → IsExpansion g → HasOneOwner g → now.instances ≡ length g.instances → now.pins ≡ length g.pins → now.atoms ≡ length t.atoms →
      Some first ≡ slice_get (options g t now.made v) 0 → IsFree now first
  first_free first law owners i p a is =
      let at = first_of (options g t now.made v) first (sym is) in
      let free = free_option g t law owners now.made path.0 path.1 v first branch.1.live branch.1.undecided (subst (λ os. Has os first) (sym at.1) (inl refl)) in
      let same : decided_on now.made (length g.instances) (length g.pins) (length t.atoms) ≡ now =
      ap (λ n. decided_on now.made n (length g.pins) (length t.atoms)) (sym i) ∙ ap (λ n. decided_on now.made now.instances n (length t.atoms)) (sym p) ∙ ap (λ n. decided_on now.made now.instances now.pins n) (sym a) in
      subst (λ d. IsFree d first) same free

some_first : {X : Type 0} (xs : List X) → 0 < length xs → (x : X) × (rest : List X) × (xs ≡ x ∷ rest)
some_first [] some = absurd (omega arith)
some_first (x ∷ xs) some = (x, xs, refl)

pub entered : (g : Graph) (t : Task) (old new : List Decision) (v : Var) (kids : ℕ) (todo : List (List Decision)) → IsBranch g t old v kids → 0 < kids →
    ((first : Decision) (rest : List Decision) → options g t old v ≡ first ∷ rest → new ≡ first ∷ old) → Owes g t old todo → StandsAt g t new (children old kids (options g t old v) ++ todo)
entered g t old new v kids todo branch some decides owes =
    let at = some_first (options g t old v) (omega (arith, branch.each)) in
    let made = decides at.0 at.1 at.2 in
    let all : children old kids (options g t old v) ++ todo ≡ (at.0 ∷ old) ∷ (map (λ o. o ∷ old) at.1 ++ todo) =
    ap (λ xs. xs ++ todo) (each_child old kids (options g t old v) branch.each ∙ ap (λ os. map (λ o. o ∷ old) os) at.2) in
    subst (λ ts. StandsAt g t new ts) (sym all) (sym made, subst (λ m. Owes g t m (map (λ o. o ∷ old) at.1 ++ todo)) (sym made) (enters g t old v at.0 at.1 todo branch.live branch.undecided at.2 owes))
