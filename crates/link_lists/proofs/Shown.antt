-- What the links say of the lists.
use Rattle.std.proofs.Common.{◌≡◌, ◌<◌, ◌≤◌, ◌+◌, ◌⊎◌, inl, inr, ℕ, List, length, eqb, refl, sym, ◌∙◌, arith}
use Rattle.std.specs.Prelude.{slice_index}
use Rattle.std.specs.List.{Contains}
use Rattle.std.specs.Set.{is_member}
use Rattle.std.proofs.lemmas.Bool.{cases_Bool}
use Rattle.std.proofs.lemmas.Bool.Decides.{Decides-eqb}
use Rattle.std.proofs.lemmas.List.{get_or_default}
use Rattle.std.proofs.lemmas.Map.Made.{is_member-Decides}
use Rattle.link_lists.specs.Members.{Membership, IsLinked, IsFirstFrom, HasNoneFrom, IsSoundMembership}
use Rattle.link_lists.specs.Links.{list_at, IsNearest, IsLinkage}
use Rattle.link_lists.proofs.Relinking.{one_nearest, list_at-position, list_at-head, from_at-position, from_at-head}
use Rattle.link_lists.proofs.Stack.{unlinked_once, not_led_to}

abbrev pub members : ℕ → List ℕ → List ℕ → Membership
members lists owner unlinked = record { lists = lists; owner = owner; unlinked = unlinked }

-- a number stands in a list or it doesn't
pub contains_or_not : (xs : List ℕ) (x : ℕ) → Contains xs x ⊎ (Contains xs x → ⊥)
contains_or_not xs x =
    let decides = is_member-Decides Decides-eqb xs x in
    elim (cases_Bool (is_member eqb xs x)) [
      | inl yes' ↦ inl (decides.0 yes')
      | inr no' ↦ inr (λ h. absurd (let bad : ⊥ = cc (decides.1 h, no') in bad))
    ]

found : (lists : ℕ) (owner unlinked : List ℕ) (list from i : ℕ) → i < length owner →
    IsNearest owner (Contains unlinked) list from i → IsFirstFrom (members lists owner unlinked) list from i
found lists owner unlinked list from i within least = record {
  member = record { linked = record { within = within; linked = least.inside within }; owned = least.owned within };
  behind = least.behind;
  least = λ k behind less member. least.least k behind less member.owned member.linked.linked;
}

none : (lists : ℕ) (owner unlinked : List ℕ) (list from j : ℕ) → length owner ≤ j →
    IsNearest owner (Contains unlinked) list from j → HasNoneFrom (members lists owner unlinked) list from
none lists owner unlinked list from j past least = λ k behind member.
    least.least k behind (omega (arith, member.linked.within)) member.owned member.linked.linked

module _ (lists : ℕ) (owner next prev unlinked : List ℕ) (capacity : ℕ) (linkage : IsLinkage lists owner next prev unlinked capacity) where
  pub sound : IsSoundMembership (members lists owner unlinked)
  sound = record {
    few = linkage.few;
    few_lists = linkage.few_lists;
    owners = linkage.owners;
    within = λ k inside. (linkage.kept k inside).within;
    once = unlinked_once lists owner next prev capacity unlinked linkage;
  }

  at_first : (list head : ℕ) → list < lists → head ≡ length owner + list → IsNearest owner (Contains unlinked) list 0 (slice_index next head)
  at_first list head inside is_head =
      let of_list : list_at owner head ≡ list = omega (arith, list_at-head owner head (omega arith)) in
      rw (of_list, from_at-head owner head (omega arith)) at
      (linkage.links.onward head (omega arith) (λ h. absurd (omega arith)))

  at_next : (i : ℕ) → IsLinked (members lists owner unlinked) i →
      IsNearest owner (Contains unlinked) (slice_index owner i) (i + 1) (slice_index next i)
  at_next i linked =
      let within : i < length owner = linked.within in
      rw (list_at-position owner i within, from_at-position owner i within) at
      (linkage.links.onward i (omega arith) (λ _. linked.linked))

  pub first_found : (list head i : ℕ) → list < lists → head ≡ length owner + list → i ≡ slice_index next head → i < length owner →
      IsFirstFrom (members lists owner unlinked) list 0 i
  first_found list head i inside is_head is within = found lists owner unlinked list 0 i within (rw is (at_first list head inside is_head))

  pub first_none : (list head i : ℕ) → list < lists → head ≡ length owner + list → i ≡ slice_index next head → length owner ≤ i →
      HasNoneFrom (members lists owner unlinked) list 0
  first_none list head i inside is_head is past = none lists owner unlinked list 0 i past (rw is (at_first list head inside is_head))

  -- just a linked position is still led to from where it was
  pub leads_where_linked : (i : ℕ) → IsLinked (members lists owner unlinked) i → slice_index next (slice_index prev i) ≡ i
  leads_where_linked i linked =
      let before = linkage.links.back i linked.within linked.linked in
      one_nearest (linkage.links.onward (slice_index prev i) before.within before.inside) before.least

  pub linked_where_led : (i : ℕ) → i < length owner → slice_index next (slice_index prev i) ≡ i → IsLinked (members lists owner unlinked) i
  linked_where_led i within leads = record {
    within = within;
    linked = λ (k, inside, is).
        not_led_to lists owner next prev capacity unlinked linkage k (slice_index prev i) i inside (sym (get_or_default unlinked k 0 i inside ∙ is)) refl leads;
  }

  pub next_found : (i j : ℕ) → IsLinked (members lists owner unlinked) i → j ≡ slice_index next i → j < length owner →
      IsFirstFrom (members lists owner unlinked) (slice_index owner i) (i + 1) j
  next_found i j linked is within = found lists owner unlinked (slice_index owner i) (i + 1) j within (rw is (at_next i linked))

  pub next_none : (i j : ℕ) → IsLinked (members lists owner unlinked) i → j ≡ slice_index next i → length owner ≤ j →
      HasNoneFrom (members lists owner unlinked) (slice_index owner i) (i + 1)
  next_none i j linked is past = none lists owner unlinked (slice_index owner i) (i + 1) j past (rw is (at_next i linked))
