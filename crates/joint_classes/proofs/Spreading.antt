-- The search for the members of a class, number by number.
use Rattle.std.proofs.Common.{◌≡◌, ◌<◌, ◌≤◌, ◌+◌, ◌⊎◌, ℕ, zero, suc, Bool, false, List, [], ◌∷◌, ◌++◌, Some, length, take, slice_get, get_or, refl, sym, ap, ◌∙◌, subst, inl, inr, arith}
use Rattle.std.specs.Prelude.{◌↔◌}
use Rattle.std.specs.List.{All}
use Rattle.std.proofs.lemmas.Bool.{cases_lt, false≢true}
use Rattle.std.proofs.lemmas.List.{take_more, take_all, take-append-le, length-append, get_or_past}
use Rattle.std.proofs.lemmas.Option.{slice_get-get_or}
use Rattle.vtr_base.specs.Lists.{Has}
use Rattle.list_laws.proofs.Members.{has_at, has_left, has_right, has_either, has_pushed}
use Rattle.joint_classes.specs.Members.{IsNext, Steps, Reaches, AreTables, AreClosed, IsSeen, IsFresh, unseen, Pushes, Spreads}
use Rattle.joint_classes.proofs.Pushing.{fresh_of, not_both, pushed_both}

-- the numbers before place `at` of the members were looked at
pub record IsSpreading (nexts prevs : List (List ℕ)) (root : ℕ) (old new : List Bool) (members : List ℕ) (at : ℕ) : Type 0 where
  pub root_in : Has members root
  pub reached : (a : ℕ) → Has members a → Reaches nexts prevs root a
  pub closed : (a b : ℕ) → Has (take at members) a → IsNext nexts prevs a b → IsSeen new b
  pub fresh : (a : ℕ) → Has members a → IsFresh old a
  pub seen : (a : ℕ) → IsSeen new a ↔ (IsSeen old a ⊎ Has members a)
  pub low : at ≤ length members
  pub count : unseen new + length members ≡ unseen old
  pub long : length new ≡ length old

pub seen_low : (seen : List Bool) (a : ℕ) → IsSeen seen a → a < length seen
seen_low seen a is = by (cases_lt a (length seen))
  where
    by : (a < length seen) ⊎ (length seen ≤ a) → a < length seen
    by (inl low) = low
    by (inr past) = absurd (false≢true (sym (get_or_past seen a false past) ∙ is))

on : (nexts prevs : List (List ℕ)) (steps a b c : ℕ) → Steps nexts prevs steps a b → IsNext nexts prevs b c → Steps nexts prevs (suc steps) a c
on nexts prevs zero a b c same next = (c, subst (λ (k : ℕ). IsNext nexts prevs k c) (sym same) next, refl)
on nexts prevs (suc steps) a b c (d, first, rest) next = (d, first, on nexts prevs steps d b c rest next)

reaches_on : (nexts prevs : List (List ℕ)) (a b c : ℕ) → Reaches nexts prevs a b → IsNext nexts prevs b c → Reaches nexts prevs a c
reaches_on nexts prevs a b c (steps, way) next = (suc steps, on nexts prevs steps a b c way next)

pub begins : (nexts prevs : List (List ℕ)) (root : ℕ) (old new : List Bool) (none members : List ℕ) → IsFresh old root → none ≡ [] → Pushes (root ∷ []) none members old new → IsSpreading nexts prevs root old new members 0
begins nexts prevs root old new none members fresh empty p = record {
  root_in = first ((p.seen root).0 (p.all root (inl refl)));
  reached = λ a has. subst (λ (k : ℕ). Reaches nexts prevs root k) (sym (only a has)) (0, refl);
  closed = λ a b has. absurd has;
  fresh = λ a has. subst (λ (k : ℕ). IsFresh old k) (sym (only a has)) fresh;
  seen = λ a. (λ is. forth a ((p.seen a).0 is), λ h. (p.seen a).1 (back a h));
  low = omega arith;
  count = let long = ap length empty in omega (arith, p.count, long);
  long = p.long;
}
  where
    are : members ≡ p.added
    are = p.are ∙ ap (λ (l : List ℕ). l ++ p.added) empty

    to : (a : ℕ) → Has p.added a → Has members a
    to a has = subst (λ (l : List ℕ). Has l a) (sym are) has

    first : IsSeen old root ⊎ Has p.added root → Has members root
    first (inl is) = absurd (not_both old root is fresh)
    first (inr has) = to root has

    one : (a : ℕ) → Has (root ∷ []) a → a ≡ root
    one a (inl is) = is
    one a (inr none) = absurd none

    only : (a : ℕ) → Has members a → a ≡ root
    only a has = one a (p.fresh a (subst (λ (l : List ℕ). Has l a) are has)).0

    forth : (a : ℕ) → IsSeen old a ⊎ Has p.added a → IsSeen old a ⊎ Has members a
    forth a (inl is) = inl is
    forth a (inr has) = inr (to a has)

    back : (a : ℕ) → IsSeen old a ⊎ Has members a → IsSeen old a ⊎ Has p.added a
    back a (inl is) = inl is
    back a (inr has) = inr (subst (λ (l : List ℕ). Has l a) are has)

module _ (nexts prevs : List (List ℕ)) (root : ℕ) (old s : List Bool) (m : List ℕ) (at d : ℕ) (tables : AreTables nexts prevs (length old)) (here : IsSpreading nexts prevs root old s m at) (inside : at < length m) where
  number_in : Has m (get_or m at d)
  number_in = has_at m at (get_or m at d) (slice_get-get_or m at d inside)

  pub number_low : get_or m at d < length old
  number_low =
      let low = seen_low s (get_or m at d) ((here.seen (get_or m at d)).1 (inr number_in)) in
      omega (arith, low, here.long)

  module _ (g1 g2 m1 m2 : List ℕ) (s1 s2 : List Bool) (at1 : slice_get nexts (get_or m at d) ≡ Some g1) (at2 : slice_get prevs (get_or m at d) ≡ Some g2)
      (p1 : Pushes g1 m m1 s s1) (p2 : Pushes g2 m1 m2 s1 s2) where
    p : Pushes (g1 ++ g2) m m2 s s2
    p = pushed_both g1 g2 m m1 m2 s s1 s2 p1 p2

    next : (a : ℕ) → Has g1 a ⊎ Has g2 a → IsNext nexts prevs (get_or m at d) a
    next a (inl has) = inl (g1, at1, has)
    next a (inr has) = inr (g2, at2, has)

    same : (g h : List ℕ) (table : List (List ℕ)) → slice_get table (get_or m at d) ≡ Some g → slice_get table (get_or m at d) ≡ Some h → g ≡ h
    same g h table is_g is_h = let e : Some g ≡ Some h = sym is_g ∙ is_h in cc e

    listed : (a : ℕ) → IsNext nexts prevs (get_or m at d) a → Has (g1 ++ g2) a
    listed a (inl (g, is, has)) = has_left g1 g2 a (subst (λ (l : List ℕ). Has l a) (same g g1 nexts is at1) has)
    listed a (inr (g, is, has)) = has_right g1 g2 a (subst (λ (l : List ℕ). Has l a) (same g g2 prevs is at2) has)

    split : (a : ℕ) → Has m2 a → Has m a ⊎ Has (p).added a
    split a has = has_either m (p).added a (subst (λ (l : List ℕ). Has l a) (p).are has)

    join : (a : ℕ) → Has m a ⊎ Has (p).added a → Has m2 a
    join a (inl has) = subst (λ (l : List ℕ). Has l a) (sym (p).are) (has_left m (p).added a has)
    join a (inr has) = subst (λ (l : List ℕ). Has l a) (sym (p).are) (has_right m (p).added a has)

    later : (a : ℕ) → IsSeen s a → IsSeen s2 a
    later a is = ((p).seen a).1 (inl is)

    reached : (a : ℕ) → Has m a ⊎ Has (p).added a → Reaches nexts prevs root a
    reached a (inl has) = here.reached a has
    reached a (inr has) =
        reaches_on nexts prevs root (get_or m at d) a (here.reached (get_or m at d) number_in) (next a (has_either g1 g2 a ((p).fresh a has).0))

    front : take (at + 1) m2 ≡ take at m ++ get_or m at d ∷ []
    front = ap (take (at + 1)) (p).are ∙ take-append-le (at + 1) m (p).added (omega arith) ∙ take_more m at d inside

    closed : (a b : ℕ) → Has (take at m) a ⊎ (a ≡ get_or m at d) → IsNext nexts prevs a b → IsSeen s2 b
    closed a b (inl has) leads = later b (here.closed a b has leads)
    closed a b (inr last) leads = (p).all b (listed b (subst (λ (k : ℕ). IsNext nexts prevs k b) last leads))

    fresh : (a : ℕ) → Has m a ⊎ Has (p).added a → IsFresh old a
    fresh a (inl has) = here.fresh a has
    fresh a (inr has) = fresh_of old a (λ is. not_both s a ((here.seen a).1 (inl is)) ((p).fresh a has).1)

    forth : (a : ℕ) → IsSeen s a ⊎ Has (p).added a → IsSeen old a ⊎ Has m2 a
    forth a (inl is) = first a ((here.seen a).0 is)
      where
        first : (a : ℕ) → IsSeen old a ⊎ Has m a → IsSeen old a ⊎ Has m2 a
        first a (inl is) = inl is
        first a (inr has) = inr (join a (inl has))
    forth a (inr has) = inr (join a (inr has))

    back : (a : ℕ) → IsSeen old a ⊎ Has m2 a → IsSeen s2 a
    back a (inl is) = later a ((here.seen a).1 (inl is))
    back a (inr has) = known a (split a has)
      where
        known : (a : ℕ) → Has m a ⊎ Has (p).added a → IsSeen s2 a
        known a (inl has) = later a ((here.seen a).1 (inr has))
        known a (inr has) = ((p).seen a).1 (inr has)

    pub goes_on : IsSpreading nexts prevs root old s2 m2 (at + 1)
    goes_on = record {
      root_in = join root (inl here.root_in);
      reached = λ a has. reached a (split a has);
      closed = λ a b has leads. closed a b (has_pushed (take at m) (get_or m at d) a (subst (λ (l : List ℕ). Has l a) front has)) leads;
      fresh = λ a has. fresh a (split a has);
      seen = λ a. (λ is. forth a (((p).seen a).0 is), λ h. back a h);
      low = let long = ap length (p).are in omega (arith, long, length-append m (p).added, inside);
      count = (p).count ∙ here.count;
      long = (p).long ∙ here.long;
    }

pub spread_all : (nexts prevs : List (List ℕ)) (root : ℕ) (old new : List Bool) (members : List ℕ) (at : ℕ) → AreTables nexts prevs (length old) → AreClosed nexts prevs old → length members ≤ at →
    IsSpreading nexts prevs root old new members at → Spreads nexts prevs root old new members
spread_all nexts prevs root old new members at tables shut past here = record {
  root_in = here.root_in;
  reached = here.reached;
  closed = λ a b has leads. by a b has leads ((here.seen b).0 (here.closed a b (subst (λ (l : List ℕ). Has l a) (sym (take_all at members past)) has) leads));
  fresh = here.fresh;
  seen = here.seen;
  long = here.long;
}
  where
    by : (a b : ℕ) → Has members a → IsNext nexts prevs a b → IsSeen old b ⊎ Has members b → Has members b
    by a b has leads (inl is) = absurd (not_both old a (shut b a is (tables.turned a b leads)) (here.fresh a has))
    by a b has leads (inr in_members) = in_members

-- what a table lists is low
pub next_low : (nexts prevs : List (List ℕ)) (count n : ℕ) (group : List ℕ) → AreTables nexts prevs count → slice_get nexts n ≡ Some group → All (λ k. k < count) group
next_low nexts prevs count n group tables is = λ k d low. tables.low n (get_or group k d) (inl (group, is, has_at group k (get_or group k d) (slice_get-get_or group k d low)))

pub prev_low : (nexts prevs : List (List ℕ)) (count n : ℕ) (group : List ℕ) → AreTables nexts prevs count → slice_get prevs n ≡ Some group → All (λ k. k < count) group
prev_low nexts prevs count n group tables is = λ k d low. tables.low n (get_or group k d) (inr (group, is, has_at group k (get_or group k d) (slice_get-get_or group k d low)))
