-- The last of what is ahead was looked at, and the last components may have become one.
use Rattle.std.proofs.Common.{◌≡◌, ◌<◌, ◌≤◌, ◌+◌, ◌-◌, ◌⊎◌, ℕ, List, Some, length, slice_get, take, get_or, sym, ap, ◌∙◌, subst, inl, inr, arith, length-take}
use Rattle.std.proofs.lemmas.Bool.{cases_eq, cases_lt}
use Rattle.std.proofs.lemmas.Option.{slice_get_within, slice_get-get_or}
use Rattle.least_cycle.specs.declared.components.Place.{Place}
use Rattle.least_cycle.specs.declared.components.Place.TheVariants.{Open, Closed}
use Rattle.least_cycle.specs.declared.components.Component.{Component}
use Rattle.least_cycle.specs.Walks.{Joins, Reaches, AreNodes}
use Rattle.least_cycle.specs.Components.{State, IsPlace, LeadsOn, NoComponentBetween, IsSearch, AllReach, GoesOn, IsLast, IsNext, Merges, IsCut}
use Rattle.list_laws.proofs.Places.{element}
use Rattle.least_cycle.proofs.Lists.{get_take, from_take}
use Rattle.least_cycle.proofs.Reaching.{reach_on, reach_edge}

-- the node is closed or stands in the component, or in a later one
abbrev pub IsSettled : State → Component → ℕ → Type 0
IsSettled s component node = ((rank : ℕ) × IsPlace s node (Closed rank)) ⊎ ((place : ℕ) × IsPlace s node (Open place) × (component.path ≤ place))

module _ (table : List (List ℕ)) (s : State) (search : IsSearch table s) (e node : ℕ) (last : e + 1 ≡ length s.ahead) (node_is : slice_get s.ahead e ≡ Some node)
    (components' : List Component) (front : (k : ℕ) (a : Component) → slice_get components' k ≡ Some a → slice_get s.components k ≡ Some a) (some : 0 < length components') (fewer : length components' ≤ length s.components)
    (settled : (k : ℕ) (a : Component) → slice_get components' k ≡ Some a → IsSettled s a node) where
  abbrev pub left : State
  left = record { path = s.path; ahead = take e s.ahead; components = components'; places = s.places; low = s.low }

  short : length (take e s.ahead) ≡ e
  short = omega (arith, last, length-take e s.ahead)

  leads_left : (k : ℕ) (a : Component) (to : ℕ) → slice_get components' k ≡ Some a → LeadsOn s a to → LeadsOn left a to
  leads_left k a to at_a (inl closed) = inl closed
  leads_left k a to at_a (inr (inl there)) = inr (inl there)
  leads_left k a to at_a (inr (inr later)) = elim (cases_eq later.0 e) [
    | inl is ↦ looked_at is
    | inr other ↦ inr (inr (later.0, later.1, get_take e s.ahead later.0 (omega (arith, other, last, slice_get_within s.ahead later.0 to later.2)) ∙ later.2))
  ]
    where
      looked_at : later.0 ≡ e → LeadsOn left a to
      looked_at is =
          let both : Some node ≡ Some to = sym node_is ∙ (ap (λ (n : ℕ). slice_get s.ahead n) (sym is) ∙ later.2) in
          let same : node ≡ to = cc both in
          elim (subst (λ (n : ℕ). IsSettled s a n) same (settled k a at_a)) [ inl closed ↦ inl closed | inr there ↦ inr (inl there) ]

  within_left : (k : ℕ) (a : Component) → slice_get components' k ≡ Some a → a.ahead ≤ e → (a.path ≤ length s.path) × (a.ahead ≤ length (take e s.ahead))
  within_left k a at low = ((search.within k a (front k a at)).0, omega (arith, low, short))

  pub leave_search : ((k : ℕ) (a : Component) → slice_get components' k ≡ Some a → a.ahead ≤ e) →
      ((i j x y : ℕ) → slice_get s.path i ≡ Some x → slice_get s.path j ≡ Some y → NoComponentBetween left j i → Reaches (Joins table) x y) → IsSearch table left
  leave_search low reach = record {
    each = search.each;
    opened = search.opened;
    on_path = search.on_path;
    ordered = λ k j a b le at_a at_b. search.ordered k j a b le (front k a at_a) (front j b at_b);
    within = λ k a at. within_left k a at (low k a at);
    begins = λ a at. search.begins a (front 0 a at);
    some_component = λ any. some;
    follows = λ k a i x to at_a behind at_x joins. leads_left k a to at_a (search.follows k a i x to (front k a at_a) behind at_x joins);
    comes = λ i to at_to. (let r = search.comes i to (from_take e s.ahead i to at_to).at in record {
      place = r.place;
      node = r.node;
      node_is = r.node_is;
      joins = r.joins;
      behind = λ k a at_a less. r.behind k a (front k a at_a) less;
      before = λ k a at_a more. r.before k a (front k a at_a) more;
    });
    reach = reach;
    lowest = search.lowest;
    never_fall = search.never_fall;
    connected = search.connected;
    room = omega (arith, search.room, fewer);
  }

  pub leave_goes_on : IsSearch table left → GoesOn table s left
  leave_goes_on found = record {
    search = found;
    less = omega (arith, short, last, fewer);
    seen = λ x at. at;
  }

-- each component begins by where the last one does
pub last_low : (table : List (List ℕ)) (s : State) → IsSearch table s → (component : Component) (last : IsLast s component) (k : ℕ) (a : Component) → slice_get s.components k ≡ Some a →
    (a.path ≤ component.path) × (a.ahead ≤ component.ahead)
last_low table s search component last k a at = search.ordered k last.0 a component (omega (arith, last.1, slice_get_within s.components k a at)) at last.2

-- nothing but the last node was taken away
pub pop_step : (table : List (List ℕ)) (s : State) → IsSearch table s → (component : Component) (node rank : ℕ) → IsPlace s node (Closed rank) →
    (next : IsNext s component node) → GoesOn table s (record { path = s.path; ahead = take next.place s.ahead; components = s.components; places = s.places; low = s.low })
pop_step table s search component node rank closed next =
    let low : (k : ℕ) (a : Component) → slice_get s.components k ≡ Some a → a.ahead ≤ next.place =
    λ k a at. (let less = (last_low table s search component next.last k a at).1 in omega (arith, less, next.of_component)) in
    let some : 0 < length s.components = omega (arith, next.last.1) in
    let settled : (k : ℕ) (a : Component) → slice_get s.components k ≡ Some a → IsSettled s a node = λ k a at. inl (rank, closed) in
    let same : length s.components ≤ length s.components = omega arith in
    leave_goes_on table s search next.place node next.place_is next.node_is s.components (λ k a at. at) some same settled
    (leave_search table s search next.place node next.place_is next.node_is s.components (λ k a at. at) some same settled low (λ i j x y at_x at_y none. search.reach i j x y at_x at_y none))

module _ (table : List (List ℕ)) (s : State) (search : IsSearch table s) (component : Component) (node at : ℕ) (is_open : IsPlace s node (Open at)) (next : IsNext s component node)
    (count : ℕ) (cut : IsCut s.components at count) where
  abbrev kept : List Component
  kept = take count s.components

  abbrev pub merged : State
  merged = record { path = s.path; ahead = take next.place s.ahead; components = kept; places = s.places; low = s.low }

  long : length kept ≡ count
  long = omega (arith, length-take count s.components, cut.within)

  -- the component that the later ones come to
  record Star : Type 0 where
    place : ℕ
    place_is : place + 1 ≡ count
    joint : Component
    there : slice_get s.components place ≡ Some joint
    low : joint.path ≤ at

  star : Star
  star = of (count - 1) (omega (arith, cut.some_component))
    where
      of : (k : ℕ) → k + 1 ≡ count → Star
      of k is = let found = element s.components k (omega (arith, is, cut.within)) in
          record { place = k; place_is = is; joint = found.0; there = found.1; low = cut.last k found.0 is found.1 }

  kept_low : (k : ℕ) (a : Component) → k < count → slice_get s.components k ≡ Some a → a.path ≤ star.joint.path
  kept_low k a low there = (search.ordered k star.place a star.joint (omega (arith, low, star.place_is)) there star.there).0

  settled_merged : (k : ℕ) (a : Component) → slice_get kept k ≡ Some a → IsSettled s a node
  settled_merged k a there =
      let old = from_take count s.components k a there in
      inr (at, is_open, omega (arith, kept_low k a old.low old.at, star.low))

  comes_back : (i j x y : ℕ) → slice_get s.path i ≡ Some x → slice_get s.path j ≡ Some y → star.joint.path ≤ j → Reaches (Joins table) x y
  comes_back i j x y at_x at_y high =
      let r = search.comes next.place node next.node_is in
      let behind = r.behind next.last.0 component next.last.2 next.of_component in
      let out = search.reach i r.place x r.node at_x r.node_is (λ k a there less. (let low = (last_low table s search component next.last k a there).0 in omega (arith, low, behind))) in
      let back = search.reach at j node y (search.on_path at node is_open) at_y (λ k a there less. elim (cases_lt k count) [
        | inl low ↦ (let by = kept_low k a low there in omega (arith, by, high))
        | inr later ↦ absurd (let past = cut.later k a later there in omega (arith, past, less))
      ]) in
      reach_on (Joins table) x r.node y out (reach_on (Joins table) r.node node y (reach_edge (Joins table) r.node node r.joins) back)

  reach_merged : (i j x y : ℕ) → slice_get s.path i ≡ Some x → slice_get s.path j ≡ Some y → NoComponentBetween merged j i → Reaches (Joins table) x y
  reach_merged i j x y at_x at_y none = elim (cases_lt j star.joint.path) [
    | inr high ↦ comes_back i j x y at_x at_y high
    | inl low ↦ elim (cases_lt i star.joint.path) [
      | inr between ↦ absurd (let past = none star.place star.joint (get_take count s.components star.place (omega (arith, star.place_is)) ∙ star.there) between in omega (arith, past, low))
      | inl both ↦ search.reach i j x y at_x at_y (λ k a there less. elim (cases_lt k count) [
        | inl front ↦ none k a (get_take count s.components k front ∙ there) less
        | inr later ↦ absurd (let past = cut.later k a later there in omega (arith, past, less, both, star.low))
      ])
    ]
  ]

  pub merge_step : GoesOn table s merged
  merge_step =
      let front : (k : ℕ) (a : Component) → slice_get kept k ≡ Some a → slice_get s.components k ≡ Some a = λ k a there. (from_take count s.components k a there).at in
      let low : (k : ℕ) (a : Component) → slice_get kept k ≡ Some a → a.ahead ≤ next.place =
      λ k a there. (let less = (last_low table s search component next.last k a (front k a there)).1 in omega (arith, less, next.of_component)) in
      let some : 0 < length kept = omega (arith, long, cut.some_component) in
      let fewer : length kept ≤ length s.components = omega (arith, long, cut.within) in
      leave_goes_on table s search next.place node next.place_is next.node_is kept front some fewer settled_merged
      (leave_search table s search next.place node next.place_is next.node_is kept front some fewer settled_merged low reach_merged)

-- the same, of what the code made
pub merge_is : (s : State) (at count : ℕ) → IsCut s.components at count → (ahead' : List ℕ) (components' : List Component) → ahead' ≡ take (length s.ahead - 1) s.ahead →
    components' ≡ take count s.components → Merges at s (record { path = s.path; ahead = ahead'; components = components'; places = s.places; low = s.low })
merge_is s at count cut ahead' components' ahead_is components_are table component node search next is_open =
    let place : length s.ahead - 1 ≡ next.place = omega (arith, next.place_is) in
    rw (ahead_is, components_are, place) (merge_step table s search component node at is_open next count cut)

pub pop_is : (table : List (List ℕ)) (s : State) → IsSearch table s → (component : Component) (node rank : ℕ) → IsPlace s node (Closed rank) → IsNext s component node →
    (ahead' : List ℕ) → ahead' ≡ take (length s.ahead - 1) s.ahead → GoesOn table s (record { path = s.path; ahead = ahead'; components = s.components; places = s.places; low = s.low })
pop_is table s search component node rank closed next ahead' ahead_is =
    let place : length s.ahead - 1 ≡ next.place = omega (arith, next.place_is) in
    rw (ahead_is, place) (pop_step table s search component node rank closed next)

-- the last of what is ahead, read by its place
pub next_there : (s : State) (component : Component) → IsLast s component → (node n : ℕ) → n ≡ length s.ahead → component.ahead < n → node ≡ get_or s.ahead (n - 1) node → IsNext s component node
next_there s component last node n size more is =
    let place : n - 1 + 1 ≡ length s.ahead = omega (arith, size, more) in
    let within : n - 1 < length s.ahead = omega (arith, place) in
    record {
      last = last;
      place = n - 1;
      place_is = place;
      node_is = slice_get-get_or s.ahead (n - 1) node within ∙ ap Some (sym is);
      of_component = omega (arith, more);
    }

pub next_within : (table : List (List ℕ)) (s : State) → IsSearch table s → AreNodes table → (component : Component) (node : ℕ) → IsNext s component node → node < length s.places
next_within table s search nodes component node next =
    let r = search.comes next.place node next.node_is in
    let low = nodes r.node node r.joins in
    omega (arith, low, search.each)

pub next_reached : (table : List (List ℕ)) (s : State) → IsSearch table s → (component : Component) (node : ℕ) → IsNext s component node → AllReach table s node
next_reached table s search component node next i x at_x =
    let r = search.comes next.place node next.node_is in
    let behind = r.behind next.last.0 component next.last.2 next.of_component in
    let out = search.reach i r.place x r.node at_x r.node_is (λ k a there less. (let low = (last_low table s search component next.last k a there).0 in omega (arith, low, behind))) in
    reach_on (Joins table) x r.node node out (reach_edge (Joins table) r.node node r.joins)

-- a place, read
pub place_read : (places : List Place) (node : ℕ) (place read : Place) → node < length places → read ≡ get_or places node read → read ≡ place → slice_get places node ≡ Some place
place_read places node place read within is same = slice_get-get_or places node read within ∙ ap Some (sym is ∙ same)
