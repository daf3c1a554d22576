-- The last component is taken off the path, as nothing is ahead of it.
use Rattle.std.proofs.Common.{◌≡◌, ◌<◌, ◌≤◌, ◌+◌, ◌-◌, ◌⊎◌, ℕ, List, Some, length, slice_get, take, drop, refl, sym, ap, ◌∙◌, inl, inr, arith, length-take}
use Rattle.std.proofs.lemmas.Bool.{cases_lt}
use Rattle.std.proofs.lemmas.Option.{slice_get_within}
use Rattle.vtr_base.specs.Lists.{Has}
use Rattle.list_laws.proofs.Places.{element}
use Rattle.least_cycle.specs.declared.components.Place.{Place}
use Rattle.least_cycle.specs.declared.components.Place.TheVariants.{Unseen, Open, Closed}
use Rattle.least_cycle.specs.declared.components.Component.{Component}
use Rattle.least_cycle.specs.Walks.{Joins, Reaches}
use Rattle.least_cycle.specs.Components.{State, IsPlace, LeadsOn, ComesFrom, NoComponentBetween, IsSearch, GoesOn, IsLast, IsSomeSearch, StaysSearch, AreMarked, AreSeen}
use Rattle.least_cycle.proofs.Lists.{get_take, from_take, from_drop, in_drop}
use Rattle.least_cycle.proofs.Leaving.{last_low}

-- the nodes of the component were seen
pub component_seen : (table : List (List ℕ)) (s : State) → IsSearch table s → (from : ℕ) → AreSeen (drop from s.path) s.places
component_seen table s search from node has =
    let r = from_drop from s.path node has in
    (Open r.place, search.opened r.place node r.at, refl)

module _ (table : List (List ℕ)) (s : State) (search : IsSearch table s) (component : Component) (last : IsLast s component) (nothing : length s.ahead ≤ component.ahead)
    (low : ℕ) (low_is : low + 1 ≡ s.low) (places' : List Place) (marks : AreMarked (drop component.path s.path) low s.places places') where
  abbrev pub closed : State
  closed = record { path = take component.path s.path; ahead = s.ahead; components = take last.0 s.components; places = places'; low = low }

  -- whether a node was marked, by its place before
  marked_open : (x i : ℕ) → IsPlace s x (Open i) → component.path ≤ i → IsPlace closed x (Closed low)
  marked_open x i at high = marks.marked x (in_drop component.path s.path i x high (search.on_path i x at))

  not_marked : (x : ℕ) (place : Place) → IsPlace s x place → ((i : ℕ) → place ≡ Open i → i < component.path) → IsPlace closed x place
  not_marked x place at before = marks.others x out ∙ at
    where
      out : Has (drop component.path s.path) x → ⊥
      out has =
          let r = from_drop component.path s.path x has in
          let both : Some place ≡ Some (Open r.place) = sym at ∙ search.opened r.place x r.at in
          let is : place ≡ Open r.place = cc both in
          let early = before r.place is in
          absurd (omega (arith, early, r.high))

  closed_stays : (x rank : ℕ) → IsPlace s x (Closed rank) → IsPlace closed x (Closed rank)
  closed_stays x rank at = not_marked x (Closed rank) at (λ i bad. absurd (let no_way : ⊥ = cc bad in no_way))

  open_stays : (x i : ℕ) → IsPlace s x (Open i) → i < component.path → IsPlace closed x (Open i)
  open_stays x i at early = not_marked x (Open i) at (λ j is. let same : i ≡ j = cc is in omega (arith, same, early))

  -- the node had the place before, and isn't of the component
  record IsKept (x : ℕ) (place : Place) : Type 0 where
    at : IsPlace s x place
    early : (i : ℕ) → place ≡ Open i → i < component.path

  record IsGone (x : ℕ) (place : Place) : Type 0 where
    i : ℕ
    at : IsPlace s x (Open i)
    high : component.path ≤ i
    is : place ≡ Closed low

  was : (x : ℕ) (place : Place) → IsPlace closed x place → IsKept x place ⊎ IsGone x place
  was x place at = by old.0 old.1
    where
      old : (p : Place) × (slice_get s.places x ≡ Some p)
      old = element s.places x (omega (arith, slice_get_within places' x place at, marks.each))

      stayed : (p : Place) → IsPlace s x p → ((i : ℕ) → p ≡ Open i → i < component.path) → IsKept x place
      stayed p at_p early =
          let both : Some p ≡ Some place = sym (not_marked x p at_p early) ∙ at in
          let is : p ≡ place = cc both in
          record { at = at_p ∙ both; early = λ i e. early i (is ∙ e) }

      gone : (i : ℕ) → IsPlace s x (Open i) → component.path ≤ i → IsGone x place
      gone i at_i high =
          let both : Some place ≡ Some (Closed low) = sym at ∙ marked_open x i at_i high in
          record { i = i; at = at_i; high = high; is = cc both }

      by : (p : Place) → slice_get s.places x ≡ Some p → IsKept x place ⊎ IsGone x place
      by Unseen at_p = inl (stayed Unseen at_p (λ i bad. absurd (let no_way : ⊥ = cc bad in no_way)))
      by (Closed rank) at_p = inl (stayed (Closed rank) at_p (λ i bad. absurd (let no_way : ⊥ = cc bad in no_way)))
      by (Open i) at_p = elim (cases_lt i component.path) [
        | inl early ↦ inl (stayed (Open i) at_p (λ j e. let same : i ≡ j = cc e in omega (arith, same, early)))
        | inr high ↦ inr (gone i at_p high)
      ]

  components_short : length (take last.0 s.components) ≡ last.0
  components_short = omega (arith, length-take last.0 s.components, last.1)

  path_short : length (take component.path s.path) ≡ component.path
  path_short = omega (arith, length-take component.path s.path, (search.within last.0 component last.2).0)

  leads_closed : (a : Component) (to : ℕ) → LeadsOn s a to → LeadsOn closed a to
  leads_closed a to (inl done) = inl (done.0, closed_stays to done.0 done.1)
  leads_closed a to (inr (inl there)) = elim (cases_lt there.0 component.path) [
    | inl early ↦ inr (inl (there.0, open_stays to there.0 there.1 early, there.2))
    | inr high ↦ inl (low, marked_open to there.0 there.1 high)
  ]
  leads_closed a to (inr (inr later)) = inr (inr later)

  -- where an edge of the closed component leads
  leads_higher : (to : ℕ) → LeadsOn s component to → (higher : ℕ) × IsPlace closed to (Closed higher) × (low ≤ higher)
  leads_higher to (inl done) = (done.0, closed_stays to done.0 done.1, omega (arith, search.lowest to done.0 done.1, low_is))
  leads_higher to (inr (inl there)) = (low, marked_open to there.0 there.1 there.2, omega arith)
  leads_higher to (inr (inr later)) = absurd (let within = slice_get_within s.ahead later.0 to later.2 in omega (arith, within, later.1, nothing))

  some_closed : 0 < length (take component.path s.path) → 0 < length (take last.0 s.components)
  some_closed some = elim (cases_lt 0 last.0) [
    | inl more ↦ omega (arith, components_short, more)
    | inr none ↦ absurd (
        let first : last.0 ≡ 0 = omega (arith, none) in
        let begin : component.path ≡ 0 = search.begins component (ap (λ (k : ℕ). slice_get s.components k) (sym first) ∙ last.2) in
        omega (arith, begin, path_short, some))
  ]

  comes_closed : (e to : ℕ) → slice_get s.ahead e ≡ Some to → ComesFrom table closed e to
  comes_closed e to at =
      let r = search.comes e to at in
      let early = r.before last.0 component last.2 (omega (arith, slice_get_within s.ahead e to at, nothing)) in
      record {
        place = r.place;
        node = r.node;
        node_is = get_take component.path s.path r.place early ∙ r.node_is;
        joins = r.joins;
        behind = λ k a at_a less. r.behind k a (from_take last.0 s.components k a at_a).at less;
        before = λ k a at_a more. r.before k a (from_take last.0 s.components k a at_a).at more;
      }

  reach_closed : (i j x y : ℕ) → slice_get (take component.path s.path) i ≡ Some x → slice_get (take component.path s.path) j ≡ Some y → NoComponentBetween closed j i → Reaches (Joins table) x y
  reach_closed i j x y at_x at_y none =
      let old_x = from_take component.path s.path i x at_x in
      let old_y = from_take component.path s.path j y at_y in
      search.reach i j x y old_x.at old_y.at (λ k a there less. elim (cases_lt k last.0) [
        | inl front ↦ none k a (get_take last.0 s.components k front ∙ there) less
        | inr later ↦ absurd (
            let is : k ≡ last.0 = omega (arith, later, last.1, slice_get_within s.components k a there) in
            let both : Some a ≡ Some component = sym there ∙ (ap (λ (n : ℕ). slice_get s.components n) is ∙ last.2) in
            let same : a ≡ component = cc both in
            let path_is : a.path ≡ component.path = ap (λ (c : Component). c.path) same in
            omega (arith, path_is, less, old_x.low))
      ])

  lowest_closed : (x rank : ℕ) → IsPlace closed x (Closed rank) → low ≤ rank
  lowest_closed x rank at = elim (was x (Closed rank) at) [
    | inl r ↦ omega (arith, search.lowest x rank r.at, low_is)
    | inr r ↦ (let is : Closed rank ≡ Closed low = r.is in let same : rank ≡ low = cc is in omega (arith, same))
  ]

  never_fall_closed : (from to rank : ℕ) → IsPlace closed from (Closed rank) → Joins table from to → (higher : ℕ) × IsPlace closed to (Closed higher) × (rank ≤ higher)
  never_fall_closed from to rank at joins = elim (was from (Closed rank) at) [
    | inl r ↦ (let found = search.never_fall from to rank r.at joins in (found.0, closed_stays to found.0 found.1, found.2))
    | inr r ↦ (
        let found = leads_higher to (search.follows last.0 component r.i from to last.2 r.high (search.on_path r.i from r.at) joins) in
        let is : Closed rank ≡ Closed low = r.is in
        let same : rank ≡ low = cc is in
        (found.0, found.1, omega (arith, found.2, same)))
  ]

  connected_closed : (x y rank : ℕ) → IsPlace closed x (Closed rank) → IsPlace closed y (Closed rank) → Reaches (Joins table) x y
  connected_closed x y rank at_x at_y = elim (was x (Closed rank) at_x) [
    | inl r ↦ elim (was y (Closed rank) at_y) [
      | inl q ↦ search.connected x y rank r.at q.at
      | inr q ↦ absurd (let is : Closed rank ≡ Closed low = q.is in let same : rank ≡ low = cc is in omega (arith, same, search.lowest x rank r.at, low_is))
    ]
    | inr r ↦ elim (was y (Closed rank) at_y) [
      | inl q ↦ absurd (let is : Closed rank ≡ Closed low = r.is in let same : rank ≡ low = cc is in omega (arith, same, search.lowest y rank q.at, low_is))
      | inr q ↦ search.reach r.i q.i x y (search.on_path r.i x r.at) (search.on_path q.i y q.at)
          (λ k a there less. (let by = (last_low table s search component last k a there).0 in omega (arith, by, q.high)))
    ]
  ]

  pub close_step : GoesOn table s closed
  close_step = record {
    search = record {
      each = marks.each ∙ search.each;
      opened = λ i x at. (let r = from_take component.path s.path i x at in open_stays x i (search.opened i x r.at) r.low);
      on_path = λ i x at. elim (was x (Open i) at) [
        | inl r ↦ get_take component.path s.path i (r.early i refl) ∙ search.on_path i x r.at
        | inr r ↦ absurd (let is : Open i ≡ Closed low = r.is in let no_way : ⊥ = cc is in no_way)
      ];
      ordered = λ k j a b le at_a at_b. search.ordered k j a b le (from_take last.0 s.components k a at_a).at (from_take last.0 s.components j b at_b).at;
      within = λ k a at. (let old = (from_take last.0 s.components k a at).at in
          (omega (arith, (last_low table s search component last k a old).0, path_short), (search.within k a old).1));
      begins = λ a at. search.begins a (from_take last.0 s.components 0 a at).at;
      some_component = some_closed;
      follows = λ k a i x to at_a behind at_x joins. leads_closed a to
          (search.follows k a i x to (from_take last.0 s.components k a at_a).at behind (from_take component.path s.path i x at_x).at joins);
      comes = comes_closed;
      reach = reach_closed;
      lowest = lowest_closed;
      never_fall = never_fall_closed;
      connected = connected_closed;
      room = omega (arith, components_short, last.1, marks.unseen, search.room, low_is);
    };
    less = omega (arith, components_short, last.1, marks.unseen);
    seen = λ x at. elim (was x Unseen at) [
      | inl r ↦ r.at
      | inr r ↦ absurd (let is : Unseen ≡ Closed low = r.is in let no_way : ⊥ = cc is in no_way)
    ];
  }

-- the same, of what the code made
pub close_is : (s : State) → IsSomeSearch s → (component : Component) → IsLast s component → length s.ahead ≤ component.ahead →
    (path' : List ℕ) (components' : List Component) (places' : List Place) → AreMarked (drop component.path s.path) (s.low - 1) s.places places' →
    path' ≡ take component.path s.path → components' ≡ take (length s.components - 1) s.components →
    StaysSearch s (record { path = path'; ahead = s.ahead; components = components'; places = places'; low = s.low - 1 })
close_is s some component last nothing path' components' places' marks path_is components_are table search =
    let low_is : s.low - 1 + 1 ≡ s.low = omega (arith, search.room, last.1) in
    let place : length s.components - 1 ≡ last.0 = omega (arith, last.1) in
    rw (path_is, components_are, place) (close_step table s search component last nothing (s.low - 1) low_is places' marks)
