-- A node is put on the path as a component by itself.
use Rattle.std.proofs.Common.{◌≡◌, ◌<◌, ◌≤◌, ◌+◌, ◌^◌, ◌⊎◌, ℕ, zero, suc, List, [], ◌∷◌, ◌++◌, Some, length, slice_get, refl, sym, ap, ◌∙◌, subst, inl, inr, arith, length-append}
use Rattle.std.specs.Prelude.{count_by}
use Rattle.std.proofs.Math.ListN.{set, length-set}
use Rattle.std.proofs.lemmas.Bool.{cases_eq, cases_lt}
use Rattle.std.proofs.lemmas.List.{length_push}
use Rattle.std.proofs.lemmas.Option.{slice_get_within}
use Rattle.vtr_base.specs.Lists.{Has}
use Rattle.list_laws.proofs.Members.{has_at, at_has}
use Rattle.list_laws.proofs.Places.{get_front, get_behind, get_after, get_either}
use Rattle.least_cycle.specs.declared.components.Place.{Place}
use Rattle.least_cycle.specs.declared.components.Place.TheVariants.{Unseen, Open, Closed}
use Rattle.least_cycle.specs.declared.components.Component.{Component}
use Rattle.least_cycle.specs.Walks.{Joins, Reaches}
use Rattle.least_cycle.specs.Components.{State, IsPlace, LeadsOn, ComesFrom, NoComponentBetween, AreOrdered, IsSearch, AllReach, GoesOn, is_unseen}
use Rattle.least_cycle.proofs.Lists.{get_set_same, get_set_other, count_set_less}
use Rattle.least_cycle.proofs.Reaching.{reach_itself}

-- what stands in a list with one more element
pub record IsPushed {X : Type 0} (xs : List X) (last : X) (k : ℕ) (x : X) : Type 0 where
  pub place : k ≡ length xs
  pub is : x ≡ last

pub pushed_either : {X : Type 0} (xs : List X) (last : X) (k : ℕ) (x : X) → slice_get (xs ++ last ∷ []) k ≡ Some x → (slice_get xs k ≡ Some x) ⊎ IsPushed xs last k x
pushed_either {X} xs last k x at = elim (get_either xs (last ∷ []) k x at) [ inl front ↦ inl front | inr back ↦ inr (new back.0 back.1 back.2) ]
  where
    new : (j : ℕ) → k ≡ length xs + j → slice_get (last ∷ []) j ≡ Some x → IsPushed xs last k x
    new zero place at_j = record { place = omega (arith, place); is = let both : Some x ≡ Some last = sym at_j in cc both }
    new (suc j) place at_j = absurd (let bad : ⊥ = cc at_j in bad)

abbrev pub component_at : State → Component
component_at s = record { path = length s.path; ahead = length s.ahead }

abbrev pub entered : State → ℕ → List ℕ → State
entered s node group = record {
  path = s.path ++ node ∷ [];
  ahead = s.ahead ++ group;
  components = s.components ++ component_at s ∷ [];
  places = set s.places node (Open (length s.path));
  low = s.low;
}

module _ (table : List (List ℕ)) (s : State) (search : IsSearch table s) (node : ℕ) (unseen : IsPlace s node Unseen) (reached : AllReach table s node)
    (group : List ℕ) (group_is : slice_get table node ≡ Some group) where
  abbrev new : State
  new = entered s node group

  abbrev last : Component
  last = component_at s

  here : IsPlace new node (Open (length s.path))
  here = get_set_same s.places node (Open (length s.path)) (slice_get_within s.places node Unseen unseen)

  stays : (x : ℕ) (place : Place) → IsPlace s x place → (place ≡ Unseen → ⊥) → IsPlace new x place
  stays x place at seen = get_set_other s.places node x (Open (length s.path)) (λ is. seen (same is)) ∙ at
    where
      same : x ≡ node → place ≡ Unseen
      same is =
          let both : Some place ≡ Some Unseen = sym at ∙ (ap (λ (k : ℕ). slice_get s.places k) is ∙ unseen) in
          cc both

  open_stays : (x i : ℕ) → IsPlace s x (Open i) → IsPlace new x (Open i)
  open_stays x i at = stays x (Open i) at (λ bad. let no_way : ⊥ = cc bad in no_way)

  closed_stays : (x rank : ℕ) → IsPlace s x (Closed rank) → IsPlace new x (Closed rank)
  closed_stays x rank at = stays x (Closed rank) at (λ bad. let no_way : ⊥ = cc bad in no_way)

  was : (x : ℕ) (place : Place) → IsPlace new x place → IsPlace s x place ⊎ ((x ≡ node) × (place ≡ Open (length s.path)))
  was x place at = elim (cases_eq x node) [ inl is ↦ inr (is, newly is) | inr other ↦ inl (sym (get_set_other s.places node x (Open (length s.path)) other) ∙ at) ]
    where
      newly : x ≡ node → place ≡ Open (length s.path)
      newly is =
          let both : Some place ≡ Some (Open (length s.path)) = sym at ∙ (ap (λ (k : ℕ). slice_get new.places k) is ∙ here) in
          cc both

  closed_was : (x rank : ℕ) → IsPlace new x (Closed rank) → IsPlace s x (Closed rank)
  closed_was x rank at = elim (was x (Closed rank) at) [ inl old ↦ old | inr bad ↦ absurd (let no_way : ⊥ = cc bad.1 in no_way) ]

  on_new_path : (i x : ℕ) → IsPlace new x (Open i) → slice_get new.path i ≡ Some x
  on_new_path i x at = elim (was x (Open i) at) [
    | inl old ↦ get_front s.path (node ∷ []) i x (search.on_path i x old)
    | inr both ↦ get_after s.path [] node i (let same : Open i ≡ Open (length s.path) = both.1 in cc same) ∙ ap Some (sym both.0)
  ]

  opened_new : (i x : ℕ) → slice_get new.path i ≡ Some x → IsPlace new x (Open i)
  opened_new i x at = elim (pushed_either s.path node i x at) [
    | inl old ↦ open_stays x i (search.opened i x old)
    | inr r ↦ subst (λ (k : ℕ). IsPlace new x (Open k)) (sym r.place) (subst (λ (k : ℕ). IsPlace new k (Open (length s.path))) (sym r.is) here)
  ]

  component_old : (k : ℕ) (a : Component) → slice_get s.components k ≡ Some a → (a.path ≤ length s.path) × (a.ahead ≤ length s.ahead)
  component_old = search.within

  -- each component begins by the end of the old path
  component_low : (k : ℕ) (a : Component) → slice_get new.components k ≡ Some a → (a.path ≤ length s.path) × (a.ahead ≤ length s.ahead)
  component_low k a at = elim (pushed_either s.components last k a at) [
    | inl old ↦ search.within k a old
    | inr r ↦ (let is : a.path ≡ length s.path = ap (λ (b : Component). b.path) r.is in omega (arith, is), let is : a.ahead ≡ length s.ahead = ap (λ (b : Component). b.ahead) r.is in omega (arith, is))
  ]

  ordered_new : AreOrdered new.components
  ordered_new k j a b le at_a at_b = elim (pushed_either s.components last j b at_b) [
    | inl old_b ↦ elim (pushed_either s.components last k a at_a) [
      | inl old_a ↦ search.ordered k j a b le old_a old_b
      | inr r ↦ absurd (let low : j < length s.components = slice_get_within s.components j b old_b in omega (arith, low, r.place, le))
    ]
    | inr r ↦ (
      let is : b.path ≡ length s.path = ap (λ (c : Component). c.path) r.is in omega (arith, is, (component_low k a at_a).0),
      let is : b.ahead ≡ length s.ahead = ap (λ (c : Component). c.ahead) r.is in omega (arith, is, (component_low k a at_a).1),
    )
  ]

  begins_new : (a : Component) → slice_get new.components 0 ≡ Some a → a.path ≡ 0
  begins_new a at = elim (pushed_either s.components last 0 a at) [
    | inl old ↦ search.begins a old
    | inr r ↦ (let is : a.path ≡ length s.path = ap (λ (c : Component). c.path) r.is in elim (cases_lt 0 (length s.path)) [
      | inl some ↦ (let more : 0 < length s.components = search.some_component some in omega (arith, more, r.place))
      | inr none ↦ omega (arith, is, none)
    ])
  ]

  -- edges of the new node lead to what is ahead
  leads_new : (a : Component) (to : ℕ) → a.ahead ≤ length s.ahead → Joins table node to → LeadsOn new a to
  leads_new a to low joins = inr (inr (length s.ahead + spot.0, omega (arith, low), get_behind s.ahead group spot.0 to spot.1))
    where
      same : joins.0 ≡ group
      same = let both : Some joins.0 ≡ Some group = sym joins.1 ∙ group_is in cc both

      spot : (k : ℕ) × (slice_get group k ≡ Some to)
      spot = at_has group to (subst (λ (g : List ℕ). Has g to) same joins.2)

  leads_old : (a : Component) (to : ℕ) → LeadsOn s a to → LeadsOn new a to
  leads_old a to (inl closed) = inl (closed.0, closed_stays to closed.0 closed.1)
  leads_old a to (inr (inl open_there)) = inr (inl (open_there.0, open_stays to open_there.0 open_there.1, open_there.2))
  leads_old a to (inr (inr later)) = inr (inr (later.0, later.1, get_front s.ahead group later.0 to later.2))

  follows_new : (k : ℕ) (a : Component) (i x to : ℕ) → slice_get new.components k ≡ Some a → a.path ≤ i → slice_get new.path i ≡ Some x → Joins table x to → LeadsOn new a to
  follows_new k a i x to at_a behind at_x joins = elim (pushed_either s.path node i x at_x) [
    | inl old_x ↦ elim (pushed_either s.components last k a at_a) [
      | inl old_a ↦ leads_old a to (search.follows k a i x to old_a behind old_x joins)
      | inr r ↦ absurd (let low : i < length s.path = slice_get_within s.path i x old_x in let is : a.path ≡ length s.path = ap (λ (c : Component). c.path) r.is in omega (arith, low, is, behind))
    ]
    | inr r ↦ leads_new a to (component_low k a at_a).1 (subst (λ (y : ℕ). Joins table y to) r.is joins)
  ]

  behind_new : (e to : ℕ) (low : e < length s.ahead) (r : ComesFrom table s e to) (k : ℕ) (a : Component) → slice_get new.components k ≡ Some a → a.ahead ≤ e → a.path ≤ r.place
  behind_new e to low r k a at_a less = elim (pushed_either s.components last k a at_a) [
    | inl old ↦ r.behind k a old less
    | inr q ↦ absurd (let is : a.ahead ≡ length s.ahead = ap (λ (c : Component). c.ahead) q.is in omega (arith, is, low, less))
  ]

  before_new : (e to : ℕ) (r : ComesFrom table s e to) (k : ℕ) (a : Component) → slice_get new.components k ≡ Some a → e < a.ahead → r.place < a.path
  before_new e to r k a at_a more = elim (pushed_either s.components last k a at_a) [
    | inl old ↦ r.before k a old more
    | inr q ↦ (let is : a.path ≡ length s.path = ap (λ (c : Component). c.path) q.is in omega (arith, is, slice_get_within s.path r.place r.node r.node_is))
  ]

  comes_new : (e to : ℕ) → slice_get new.ahead e ≡ Some to → ComesFrom table new e to
  comes_new e to at_to = elim (get_either s.ahead group e to at_to) [
    | inl old ↦ (let r = search.comes e to old in
        record {
          place = r.place;
          node = r.node;
          node_is = get_front s.path (node ∷ []) r.place r.node r.node_is;
          joins = r.joins;
          behind = behind_new e to (slice_get_within s.ahead e to old) r;
          before = before_new e to r;
        })
    | inr back ↦ record {
      place = length s.path;
      node = node;
      node_is = get_after s.path [] node (length s.path) refl;
      joins = (group, group_is, has_at group back.0 to back.2);
      behind = λ k a at_a less. (component_low k a at_a).0;
      before = λ k a at_a more. absurd (let low = (component_low k a at_a).1 in omega (arith, low, back.1, more));
    }
  ]

  reach_new : (i j x y : ℕ) → slice_get new.path i ≡ Some x → slice_get new.path j ≡ Some y → NoComponentBetween new j i → Reaches (Joins table) x y
  reach_new i j x y at_x at_y none = elim (pushed_either s.path node i x at_x) [
    | inl old_x ↦ elim (pushed_either s.path node j y at_y) [
      | inl old_y ↦ search.reach i j x y old_x old_y (λ k a at_a. none k a (get_front s.components (last ∷ []) k a at_a))
      | inr r ↦ subst (λ (z : ℕ). Reaches (Joins table) x z) (sym r.is) (reached i x old_x)
    ]
    | inr q ↦ elim (pushed_either s.path node j y at_y) [
      | inl old_y ↦ absurd (let low : j < length s.path = slice_get_within s.path j y old_y in
          let not_before : length s.path ≤ j = none (length s.components) last (get_after s.components [] last (length s.components) refl) (omega (arith, q.place)) in
          omega (arith, low, not_before))
      | inr r ↦ subst (λ (z : ℕ). Reaches (Joins table) x z) (q.is ∙ sym r.is) (reach_itself (Joins table) x)
    ]
  ]

  count_new : count_by is_unseen new.places + 1 ≡ count_by is_unseen s.places
  count_new = count_set_less is_unseen s.places node Unseen (Open (length s.path)) unseen refl refl

  pub enter_search : IsSearch table new
  enter_search = record {
    each = length-set s.places node (Open (length s.path)) ∙ search.each;
    opened = opened_new;
    on_path = on_new_path;
    ordered = ordered_new;
    within = λ k a at. (let low = component_low k a at in (omega (arith, low.0, length_push s.path node), omega (arith, low.1, length-append s.ahead group)));
    begins = begins_new;
    some_component = λ some. omega (arith, length_push s.components last);
    follows = follows_new;
    comes = comes_new;
    reach = reach_new;
    lowest = λ x rank at. search.lowest x rank (closed_was x rank at);
    never_fall = λ from to rank at joins. (let r = search.never_fall from to rank (closed_was from rank at) joins in (r.0, closed_stays to r.0 r.1, r.2));
    connected = λ x y rank at_x at_y. search.connected x y rank (closed_was x rank at_x) (closed_was y rank at_y);
    room = omega (arith, count_new, length_push s.components last, search.room);
  }

  pub enter_seen : IsPlace new node Unseen → ⊥
  enter_seen at = let both : Some Unseen ≡ Some (Open (length s.path)) = sym at ∙ here in let no_way : ⊥ = cc both in no_way

  pub enter_goes_on : length group < 2 ^ 64 → GoesOn table s new
  enter_goes_on few = record {
    search = enter_search;
    less = omega (arith, count_new, few, length-append s.ahead group, length_push s.components last);
    seen = λ x at. elim (was x Unseen at) [ inl old ↦ old | inr bad ↦ absurd (let no_way : ⊥ = cc bad.1 in no_way) ];
  }

module _ (table : List (List ℕ)) (s : State) (search : IsSearch table s) (node : ℕ) (unseen : IsPlace s node Unseen) (reached : AllReach table s node)
    (group : List ℕ) (group_is : slice_get table node ≡ Some group) (at ahead_at : ℕ) (at_is : at ≡ length s.path) (ahead_is : ahead_at ≡ length s.ahead) where
  abbrev pub entered_by : List ℕ → List ℕ → List Component → State
  entered_by path' ahead' components' = record { path = path'; ahead = ahead'; components = components'; places = set s.places node (Open at); low = s.low }

  abbrev pub component_by : Component
  component_by = record { path = at; ahead = ahead_at }

  -- the same, of what the code made
  pub enter_is : (path' ahead' : List ℕ) (components' : List Component) → path' ≡ s.path ++ node ∷ [] → ahead' ≡ s.ahead ++ group → components' ≡ s.components ++ component_by ∷ [] →
      entered_by path' ahead' components' ≡ entered s node group
  enter_is path' ahead' components' path_is more_ahead more_components = rw (path_is, more_ahead, more_components, at_is, ahead_is) refl

  pub enter_step : (path' ahead' : List ℕ) (components' : List Component) → path' ≡ s.path ++ node ∷ [] → ahead' ≡ s.ahead ++ group → components' ≡ s.components ++ component_by ∷ [] →
      length group < 2 ^ 64 → GoesOn table s (entered_by path' ahead' components')
  enter_step path' ahead' components' path_is more_ahead more_components few =
      subst (λ (t : State). GoesOn table s t) (sym (enter_is path' ahead' components' path_is more_ahead more_components))
      (enter_goes_on table s search node unseen reached group group_is few)

  pub enter_step_seen : (path' ahead' : List ℕ) (components' : List Component) → IsPlace (entered_by path' ahead' components') node Unseen → ⊥
  enter_step_seen path' ahead' components' at_node =
      let there = get_set_same s.places node (Open at) (slice_get_within s.places node Unseen unseen) in
      let both : Some Unseen ≡ Some (Open at) = sym at_node ∙ there in
      let no_way : ⊥ = cc both in no_way
