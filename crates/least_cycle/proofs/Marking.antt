-- Nodes are marked one after the other; components that begin late are left out one after the other.
use Rattle.std.proofs.Common.{◌≡◌, ◌<◌, ◌≤◌, ◌+◌, ◌⊎◌, ℕ, false, List, [], ◌∷◌, ◌++◌, Some, length, slice_get, take, get_or, refl, sym, ap, ◌∙◌, subst, inl, inr}
use Rattle.std.proofs.Math.ListN.{set, length-set}
use Rattle.std.proofs.lemmas.Bool.{cases_eq}
use Rattle.std.proofs.lemmas.Option.{slice_get_within, slice_get-get_or}
use Rattle.std.proofs.lemmas.List.{take_more}
use Rattle.vtr_base.specs.Lists.{Has}
use Rattle.list_laws.proofs.Members.{has_at, has_left, has_last, has_pushed}
use Rattle.least_cycle.specs.declared.components.Place.{Place}
use Rattle.least_cycle.specs.declared.components.Place.TheVariants.{Closed}
use Rattle.least_cycle.specs.declared.components.Component.{Component}
use Rattle.least_cycle.specs.Components.{AreMarked, AreSeen, is_unseen}
use Rattle.least_cycle.proofs.Lists.{get_set_same, get_set_other, count_set_same}

pub has_or_not : (xs : List ℕ) (x : ℕ) → Has xs x ⊎ (Has xs x → ⊥)
has_or_not [] x = inr (λ has. has)
has_or_not (y ∷ xs) x = elim (cases_eq x y) [
  | inl is ↦ inl (inl is)
  | inr other ↦ elim (has_or_not xs x) [ inl has ↦ inl (inr has) | inr not ↦ inr (λ has. neither other not has) ]
]
  where
    neither : (x ≡ y → ⊥) → (Has xs x → ⊥) → Has (y ∷ xs) x → ⊥
    neither other not (inl is) = other is
    neither other not (inr has) = not has

pub none_marked : (rank : ℕ) (places : List Place) → AreMarked [] rank places places
none_marked rank places = record { each = refl; marked = λ node has. absurd has; others = λ node none. refl; unseen = refl }

module _ (nodes : List ℕ) (i : ℕ) (low : i < length nodes) (rank : ℕ) (old now : List Place) (marks : AreMarked (take i nodes) rank old now) (seen : AreSeen nodes old)
    (node : ℕ) (node_is : slice_get nodes i ≡ Some node) (there : Has nodes node) where
  place_now : (place : Place) × (slice_get now node ≡ Some place) × (is_unseen place ≡ false)
  place_now = elim (has_or_not (take i nodes) node) [
    | inl has ↦ (Closed rank, marks.marked node has, refl)
    | inr not ↦ (let old_place = seen node there in (old_place.0, marks.others node not ∙ old_place.1, old_place.2))
  ]

  within : node < length now
  within = slice_get_within now node place_now.0 place_now.1

  pub mark_step : AreMarked (take i nodes ++ node ∷ []) rank old (set now node (Closed rank))
  mark_step = record {
    each = length-set now node (Closed rank) ∙ marks.each;
    marked = λ x has. elim (cases_eq x node) [
      | inl is ↦ ap (λ (k : ℕ). slice_get (set now node (Closed rank)) k) is ∙ get_set_same now node (Closed rank) within
      | inr other ↦ get_set_other now node x (Closed rank) other ∙ elim (has_pushed (take i nodes) node x has) [
        | inl front ↦ marks.marked x front
        | inr is ↦ absurd (other is)
      ]
    ];
    others = λ x none. get_set_other now node x (Closed rank) (λ is. none (subst (λ (k : ℕ). Has (take i nodes ++ node ∷ []) k) (sym is) (has_last (take i nodes) node)))
        ∙ marks.others x (λ has. none (has_left (take i nodes) (node ∷ []) x has));
    unseen = count_set_same is_unseen now node place_now.0 (Closed rank) place_now.1 place_now.2 refl ∙ marks.unseen;
  }

  pub mark_within : node < length now
  mark_within = within

-- the components from `count` on begin late
pub record IsCutting (components : List Component) (at count : ℕ) : Type 0 where
  pub some_component : 0 < count
  pub within : count ≤ length components
  pub later : (k : ℕ) (component : Component) → count ≤ k → slice_get components k ≡ Some component → at < component.path

module _ (nodes : List ℕ) (i : ℕ) (low : i < length nodes) (rank : ℕ) (old now : List Place) (marks : AreMarked (take i nodes) rank old now) (seen : AreSeen nodes old) where
  node_at : slice_get nodes i ≡ Some (get_or nodes i 0)
  node_at = slice_get-get_or nodes i 0 low

  pub mark_at : AreMarked (take (i + 1) nodes) rank old (set now (get_or nodes i 0) (Closed rank))
  mark_at = subst (λ (xs : List ℕ). AreMarked xs rank old (set now (get_or nodes i 0) (Closed rank))) (sym (take_more nodes i 0 low))
      (mark_step nodes i low rank old now marks seen (get_or nodes i 0) node_at (has_at nodes i (get_or nodes i 0) node_at))

  pub mark_at_within : get_or nodes i 0 < length now
  mark_at_within = mark_within nodes i low rank old now marks seen (get_or nodes i 0) node_at (has_at nodes i (get_or nodes i 0) node_at)
