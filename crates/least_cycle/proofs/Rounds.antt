-- A search from one root, and from all.
use Rattle.std.proofs.Common.{◌≡◌, ◌<◌, ◌≤◌, ◌+◌, ◌-◌, ℕ, zero, suc, List, [], ◌∷◌, Option, Some, length, map, slice_get, get_or, replicate, refl, sym, ap, ◌∙◌, subst, inl, inr, arith}
use Rattle.std.proofs.lemmas.Option.{slice_get_within, get_or_from_slice_get, slice_get-map}
use Rattle.std.specs.Option.{option_map}
use Rattle.std.proofs.lemmas.Bool.{cases_eq}
use Rattle.std.proofs.lemmas.List.{length-map, length-replicate}
use Rattle.std.proofs.lemmas.List.Sums.{count_by-le-length}
use Rattle.list_laws.proofs.Places.{element}
use Rattle.least_cycle.specs.declared.components.Place.{Place}
use Rattle.least_cycle.specs.declared.components.Place.TheVariants.{Unseen, Open, Closed}
use Rattle.least_cycle.specs.declared.components.Component.{Component}
use Rattle.least_cycle.specs.Walks.{Joins, AreNodes, AreComponentRanks}
use Rattle.least_cycle.specs.Components.{State, IsPlace, IsSearch, GoesOn, KeepsSeen, IsLast, AllReach, IsFresh, is_unseen, rank_of}

-- the search went on from a root
pub record IsRound (table : List (List ℕ)) (root : ℕ) (old now : State) : Type 0 where
  pub search : IsSearch table now
  pub seen : KeepsSeen old now
  pub root_seen : IsPlace now root Unseen → ⊥

pub round_on : (table : List (List ℕ)) (root : ℕ) (old now next : State) → IsRound table root old now → GoesOn table now next → IsRound table root old next
round_on table root old now next r on = record {
  search = on.search;
  seen = λ node at. r.seen node (on.seen node at);
  root_seen = λ at. r.root_seen (on.seen root at);
}

pub entered_round : (table : List (List ℕ)) (root : ℕ) (old now : State) → GoesOn table old now → (IsPlace now root Unseen → ⊥) → IsRound table root old now
entered_round table root old now on seen = record { search = on.search; seen = on.seen; root_seen = seen }

pub seen_round : (table : List (List ℕ)) (root : ℕ) (s : State) → IsSearch table s → (IsPlace s root Unseen → ⊥) → IsRound table root s s
seen_round table root s search seen = record { search = search; seen = λ node at. at; root_seen = seen }

-- a place that was read
pub not_unseen : (places : List Place) (node : ℕ) (read : Place) → read ≡ get_or places node read → (read ≡ Unseen → ⊥) → slice_get places node ≡ Some Unseen → ⊥
not_unseen places node read is seen at = seen (is ∙ get_or_from_slice_get places node Unseen read at)

pub last_component : (s : State) (component : Component) → slice_get s.components (length s.components - 1) ≡ Some component → IsLast s component
last_component s component at =
    let within = slice_get_within s.components (length s.components - 1) component at in
    (length s.components - 1, omega (arith, within), at)

none_there : {X : Type 0} (xs : List X) → (0 < length xs → ⊥) → xs ≡ []
none_there [] none = refl
none_there (x ∷ xs) none = absurd (none (omega arith))

pub no_path : (table : List (List ℕ)) (s : State) → IsSearch table s → ((component : Component) → slice_get s.components (length s.components - 1) ≡ Some component → ⊥) → s.path ≡ []
no_path table s search none = none_there s.path (λ some.
    let more = search.some_component some in
    let last = element s.components (length s.components - 1) (omega (arith, more)) in
    none last.0 last.1)

pub all_reach : (table : List (List ℕ)) (s : State) (node : ℕ) → s.path ≡ [] → AllReach table s node
all_reach table s node none i x at =
    let bad : slice_get [] i ≡ Some x = ap (λ (xs : List ℕ). slice_get xs i) (sym none) ∙ at in
    absurd (let no_way : ⊥ = cc bad in no_way)

get_none : {X : Type 0} (xs : List X) (i : ℕ) (x : X) → xs ≡ [] → slice_get xs i ≡ Some x → ⊥
get_none {X} xs i x none at =
    let bad : slice_get [] i ≡ Some x = ap (λ (ys : List X). slice_get ys i) (sym none) ∙ at in
    let no_way : ⊥ = cc bad in no_way

from_replicate : (n k : ℕ) (p : Place) → slice_get (replicate n Unseen) k ≡ Some p → p ≡ Unseen
from_replicate zero k p at = absurd (cc)
from_replicate (suc n) zero p at = let both : Some Unseen ≡ Some p = at in sym (cc both)
from_replicate (suc n) (suc k) p at = from_replicate n k p at

pub fresh_search : (table : List (List ℕ)) (s : State) (nodes : ℕ) → length table ≡ nodes → IsFresh nodes s → IsSearch table s
fresh_search table s nodes size fresh = record {
  each = ap (λ (ps : List Place). length ps) fresh.places ∙ (length-replicate nodes Unseen ∙ sym size);
  opened = λ i x at. absurd (get_none s.path i x fresh.path at);
  on_path = λ i x at. absurd (let bad = only x (Open i) at in let no_way : ⊥ = cc bad in no_way);
  ordered = λ k j a b le at_a at_b. absurd (get_none s.components k a fresh.components at_a);
  within = λ k a at. absurd (get_none s.components k a fresh.components at);
  begins = λ a at. absurd (get_none s.components 0 a fresh.components at);
  some_component = λ some. absurd (let none : length s.path ≡ 0 = ap (λ (xs : List ℕ). length xs) fresh.path in omega (arith, none, some));
  follows = λ k a i x to at_a behind at_x joins. absurd (get_none s.components k a fresh.components at_a);
  comes = λ e to at. absurd (get_none s.ahead e to fresh.ahead at);
  reach = λ i j x y at_x at_y none. absurd (get_none s.path i x fresh.path at_x);
  lowest = λ x rank at. absurd (let bad = only x (Closed rank) at in let no_way : ⊥ = cc bad in no_way);
  never_fall = λ from to rank at joins. absurd (let bad = only from (Closed rank) at in let no_way : ⊥ = cc bad in no_way);
  connected = λ x y rank at_x at_y. absurd (let bad = only x (Closed rank) at_x in let no_way : ⊥ = cc bad in no_way);
  room =
      let none : length s.components ≡ 0 = ap (λ (xs : List Component). length xs) fresh.components in
      let few = count_by-le-length is_unseen s.places in
      let long : length s.places ≡ nodes = ap (λ (ps : List Place). length ps) fresh.places ∙ length-replicate nodes Unseen in
      omega (arith, none, few, long, fresh.low);
}
  where
    only : (x : ℕ) (p : Place) → IsPlace s x p → p ≡ Unseen
    only x p at = from_replicate nodes x p (ap (λ (ps : List Place). slice_get ps x) (sym fresh.places) ∙ at)

-- all nodes below one were seen, and none is open
pub record IsDone (table : List (List ℕ)) (n : ℕ) (s : State) : Type 0 where
  pub search : IsSearch table s
  pub no_path : s.path ≡ []
  pub seen : (node : ℕ) → node < n → IsPlace s node Unseen → ⊥

pub fresh_done : (table : List (List ℕ)) (s : State) (nodes : ℕ) → length table ≡ nodes → IsFresh nodes s → IsDone table 0 s
fresh_done table s nodes size fresh = record {
  search = fresh_search table s nodes size fresh;
  no_path = fresh.path;
  seen = λ node low. absurd (omega (arith, low));
}

pub done_on : (table : List (List ℕ)) (root : ℕ) (s t : State) → IsDone table root s → IsSearch table t → t.path ≡ [] → KeepsSeen s t → (IsPlace t root Unseen → ⊥) → IsDone table (root + 1) t
done_on table root s t done search none kept here = record {
  search = search;
  no_path = none;
  seen = λ node low at. elim (cases_eq node root) [
    | inl is ↦ here (subst (λ (k : ℕ). IsPlace t k Unseen) is at)
    | inr other ↦ done.seen node (omega (arith, low, other)) (kept node at)
  ];
}

module _ (table : List (List ℕ)) (nodes : ℕ) (size : length table ≡ nodes) (between : AreNodes table) (n : ℕ) (whole : nodes ≤ n) (s : State) (done : IsDone table n s) where
  closed_all : (node : ℕ) → node < nodes → (rank : ℕ) × IsPlace s node (Closed rank)
  closed_all node low = by found.0 found.1
    where
      found : (p : Place) × (slice_get s.places node ≡ Some p)
      found = element s.places node (omega (arith, low, size, done.search.each))

      by : (p : Place) → IsPlace s node p → (rank : ℕ) × IsPlace s node (Closed rank)
      by Unseen at = absurd (done.seen node (omega (arith, low, whole)) at)
      by (Open i) at = absurd (get_none s.path i node done.no_path (done.search.on_path i node at))
      by (Closed rank) at = (rank, at)

  rank_is : (node rank : ℕ) → IsPlace s node (Closed rank) → get_or (map rank_of s.places) node 0 ≡ rank
  rank_is node rank at = get_or_from_slice_get (map rank_of s.places) node rank 0 (slice_get-map rank_of s.places node ∙ ap (λ (o : Option Place). option_map rank_of o) at)

  -- the nodes of an edge are nodes
  from_low : (from to : ℕ) → Joins table from to → from < nodes
  from_low from to joins = let low = slice_get_within table from joins.0 joins.1 in omega (arith, low, size)

  to_low : (from to : ℕ) → Joins table from to → to < nodes
  to_low from to joins = let low = between from to joins in omega (arith, low, size)

  pub ranks_are : AreComponentRanks (Joins table) nodes (map rank_of s.places)
  ranks_are = record {
    each = length-map s.places rank_of ∙ (done.search.each ∙ size);
    never_fall = λ from to joins. (
        let a = closed_all from (from_low from to joins) in
        let b = done.search.never_fall from to a.0 a.1 joins in
        rw (rank_is from a.0 a.1, rank_is to b.0 b.1) b.2);
    back = λ from to joins level. (
        let a = closed_all from (from_low from to joins) in
        let b = closed_all to (to_low from to joins) in
        let same : a.0 ≡ b.0 = sym (rank_is from a.0 a.1) ∙ (level ∙ rank_is to b.0 b.1) in
        done.search.connected to from b.0 b.1 (subst (λ (r : ℕ). IsPlace s from (Closed r)) same a.1));
  }
