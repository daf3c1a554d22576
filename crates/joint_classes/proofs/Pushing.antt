-- Numbers that are seen one by one.
use Rattle.std.proofs.Common.{◌≡◌, ◌<◌, ◌≤◌, ◌+◌, ◌⊎◌, ℕ, Bool, true, false, not, List, [], ◌∷◌, ◌++◌, length, take, get_or, append_assoc, refl, sym, ap, ◌∙◌, subst, inl, inr, arith, if◌then◌else◌}
use Rattle.std.proofs.Math.ListN.{set, length-set}
use Rattle.std.proofs.lemmas.Bool.{cases_eq, false≢true}
use Rattle.std.proofs.lemmas.List.{get_or-set_same, get_or-set_other, length_push, take_more, take_all, append-nil}
use Rattle.std.proofs.lemmas.List.Sums.{sum_by-set}
use Rattle.vtr_base.specs.Lists.{Has}
use Rattle.list_laws.proofs.Members.{has_left, has_right, has_either}
use Rattle.joint_classes.specs.Members.{IsSeen, IsFresh, unseen, Pushes}

pub fresh_of : (seen : List Bool) (a : ℕ) → (IsSeen seen a → ⊥) → IsFresh seen a
fresh_of seen a not_seen = by (get_or seen a false) refl
  where
    by : (b : Bool) → get_or seen a false ≡ b → IsFresh seen a
    by true e = absurd (not_seen e)
    by false e = e

pub not_both : (seen : List Bool) (a : ℕ) → IsSeen seen a → IsFresh seen a → ⊥
not_both seen a is fresh = false≢true (sym fresh ∙ is)

-- nothing is pushed
pub none_pushed : (members : List ℕ) (old : List Bool) → Pushes [] members members old old
none_pushed members old = record {
  added = [];
  are = sym (append-nil members);
  fresh = λ a has. absurd has;
  seen = λ a. (λ is. inl is, λ h. by a h);
  all = λ a has. absurd has;
  count = refl;
  long = refl;
}
  where
    by : (a : ℕ) → IsSeen old a ⊎ Has [] a → IsSeen old a
    by a (inl is) = is
    by a (inr none) = absurd none

-- a number that was seen
pub seen_pushed : (members : List ℕ) (old : List Bool) (other : ℕ) → IsSeen old other → Pushes (other ∷ []) members members old old
seen_pushed members old other known = record {
  added = [];
  are = sym (append-nil members);
  fresh = λ a has. absurd has;
  seen = λ a. (λ is. inl is, λ h. by a h);
  all = λ a has. each a has;
  count = refl;
  long = refl;
}
  where
    by : (a : ℕ) → IsSeen old a ⊎ Has [] a → IsSeen old a
    by a (inl is) = is
    by a (inr none) = absurd none

    each : (a : ℕ) → Has (other ∷ []) a → IsSeen old a
    each a (inl is) = subst (λ (k : ℕ). IsSeen old k) (sym is) known
    each a (inr none) = absurd none

-- a number that wasn't
pub fresh_pushed : (members : List ℕ) (old : List Bool) (other : ℕ) → other < length old → IsFresh old other → Pushes (other ∷ []) members (members ++ other ∷ []) old (set old other true)
fresh_pushed members old other low fresh = record {
  added = other ∷ [];
  are = refl;
  fresh = λ a has. (has, new a has);
  seen = λ a. (λ is. forth a is (cases_eq a other), λ h. back a h);
  all = λ a has. back a (inr has);
  count = counted;
  long = length-set old other true;
}
  where
    new : (a : ℕ) → Has (other ∷ []) a → IsFresh old a
    new a (inl is) = subst (λ (k : ℕ). IsFresh old k) (sym is) fresh
    new a (inr none) = absurd none

    forth : (a : ℕ) → IsSeen (set old other true) a → (a ≡ other) ⊎ (a ≡ other → ⊥) → IsSeen old a ⊎ Has (other ∷ []) a
    forth a is (inl same) = inr (inl same)
    forth a is (inr apart) = inl (sym (get_or-set_other old other a true false apart) ∙ is)

    here : IsSeen (set old other true) other
    here = get_or-set_same old other true false low

    kept : (a : ℕ) → IsSeen old a → (a ≡ other) ⊎ (a ≡ other → ⊥) → IsSeen (set old other true) a
    kept a is (inl same) = subst (λ (k : ℕ). IsSeen (set old other true) k) (sym same) here
    kept a is (inr apart) = get_or-set_other old other a true false apart ∙ is

    back : (a : ℕ) → IsSeen old a ⊎ Has (other ∷ []) a → IsSeen (set old other true) a
    back a (inl is) = kept a is (cases_eq a other)
    back a (inr (inl same)) = subst (λ (k : ℕ). IsSeen (set old other true) k) (sym same) here
    back a (inr (inr none)) = absurd none

    weight : Bool → ℕ
    weight b = if not b then 1 else 0

    counted : unseen (set old other true) + length (members ++ other ∷ []) ≡ unseen old + length members
    counted =
        let moved = sum_by-set (λ (b : Bool). if not b then 1 else 0) old other true false low in
        let was : (if not (get_or old other false) then 1 else 0) ≡ 1 = ap (λ (b : Bool). weight b) fresh in
        omega (arith, moved, was, length_push members other)

-- one list of numbers behind the other
pub pushed_both : (xs ys m0 m1 m2 : List ℕ) (s0 s1 s2 : List Bool) → Pushes xs m0 m1 s0 s1 → Pushes ys m1 m2 s1 s2 → Pushes (xs ++ ys) m0 m2 s0 s2
pushed_both xs ys m0 m1 m2 s0 s1 s2 p q = record {
  added = p.added ++ q.added;
  are = q.are ∙ ap (λ (l : List ℕ). l ++ q.added) p.are ∙ append_assoc m0 p.added q.added;
  fresh = λ a has. fresh a (has_either p.added q.added a has);
  seen = λ a. (λ is. forth a ((q.seen a).0 is), λ h. back a h);
  all = λ a has. all a (has_either xs ys a has);
  count = q.count ∙ p.count;
  long = q.long ∙ p.long;
}
  where
    still : (a : ℕ) → IsSeen s0 a → IsSeen s1 a
    still a is = (p.seen a).1 (inl is)

    later : (a : ℕ) → IsSeen s1 a → IsSeen s2 a
    later a is = (q.seen a).1 (inl is)

    fresh : (a : ℕ) → Has p.added a ⊎ Has q.added a → Has (xs ++ ys) a × IsFresh s0 a
    fresh a (inl has) = let r = p.fresh a has in (has_left xs ys a r.0, r.1)
    fresh a (inr has) = let r = q.fresh a has in (has_right xs ys a r.0, fresh_of s0 a (λ is. not_both s1 a (still a is) r.1))

    first : (a : ℕ) → IsSeen s0 a ⊎ Has p.added a → IsSeen s0 a ⊎ Has (p.added ++ q.added) a
    first a (inl is) = inl is
    first a (inr has) = inr (has_left p.added q.added a has)

    forth : (a : ℕ) → IsSeen s1 a ⊎ Has q.added a → IsSeen s0 a ⊎ Has (p.added ++ q.added) a
    forth a (inl is) = first a ((p.seen a).0 is)
    forth a (inr has) = inr (has_right p.added q.added a has)

    split : (a : ℕ) → Has p.added a ⊎ Has q.added a → IsSeen s2 a
    split a (inl has) = later a ((p.seen a).1 (inr has))
    split a (inr has) = (q.seen a).1 (inr has)

    back : (a : ℕ) → IsSeen s0 a ⊎ Has (p.added ++ q.added) a → IsSeen s2 a
    back a (inl is) = later a (still a is)
    back a (inr has) = split a (has_either p.added q.added a has)

    all : (a : ℕ) → Has xs a ⊎ Has ys a → IsSeen s2 a
    all a (inl has) = later a (p.all a has)
    all a (inr has) = q.all a has

-- in a loop over the numbers
pub pushed_more : (others m0 m1 m2 : List ℕ) (s0 s1 s2 : List Bool) (i d : ℕ) → i < length others → Pushes (take i others) m0 m1 s0 s1 → Pushes (get_or others i d ∷ []) m1 m2 s1 s2 →
    Pushes (take (i + 1) others) m0 m2 s0 s2
pushed_more others m0 m1 m2 s0 s1 s2 i d low p q =
    subst (λ (l : List ℕ). Pushes l m0 m2 s0 s2) (sym (take_more others i d low)) (pushed_both (take i others) (get_or others i d ∷ []) m0 m1 m2 s0 s1 s2 p q)

pub pushed_all : (others m0 m1 : List ℕ) (s0 s1 : List Bool) (i : ℕ) → length others ≤ i → Pushes (take i others) m0 m1 s0 s1 → Pushes others m0 m1 s0 s1
pushed_all others m0 m1 s0 s1 i past p = subst (λ (l : List ℕ). Pushes l m0 m1 s0 s1) (take_all i others past) p
