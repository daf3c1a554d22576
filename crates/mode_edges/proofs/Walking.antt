-- A walk goes into instances and groups, and gives pin after pin.
use Rattle.std.proofs.Common.{◌≡◌, ◌<◌, ◌≤◌, ◌+◌, ◌-◌, ℕ, suc, List, [], ◌∷◌, ◌++◌, Option, Some, None, map, drop, drop-cons, slice_get, append-nil, sym, ◌∙◌, ap, arith}
use Rattle.std.specs.List.{flat_map}
use Rattle.std.proofs.lemmas.Option.{get_or_from_slice_get, slice_get_within}
use Rattle.vtr_base.specs.Lists.{up_from}
use Rattle.mode_edges.specs.declared.pin.ChildAt.{ChildAt}
use Rattle.mode_edges.specs.declared.pin.LocalPin.{LocalPin}
use Rattle.mode_edges.specs.declared.names.Instances.{Instances}
use Rattle.mode_edges.specs.declared.names.Members.{Members}
use Rattle.mode_edges.specs.declared.names.PinGroup.{PinGroup}
use Rattle.mode_edges.specs.declared.walk.PinWalk.{PinWalk}
use Rattle.mode_edges.specs.PinWords.{child_pin}
use Rattle.mode_edges.specs.Readers.{member_list, pin_of, pins_of}
use Rattle.mode_edges.specs.Walks.{pins_left, instance_count, entries_of, entries_left, GoesOn}

-- the members from `n` on below `end`, the first of them apart
pub members_from : (n end : ℕ) → n < end → up_from n (end - n) ≡ n ∷ up_from (n + 1) (end - (n + 1))
members_from n end less =
    let count : end - n ≡ suc (end - (n + 1)) = omega arith in
    ap (up_from n) count

pub members_none : (n end : ℕ) → end ≤ n → up_from n (end - n) ≡ []
members_none n end past = let count : end - n ≡ 0 = omega arith in ap (up_from n) count

abbrev members : ℕ → ℕ → Members
members low end = record { low = low; end = end }

abbrev pub in_instance : PinWalk → PinWalk
in_instance w = record w {
  instances = record { child = w.instances.child; members = members (w.instances.members.low + 1) w.instances.members.end };
  owner = Some (record { child = w.instances.child; instance = w.instances.members.low });
  row = w.bits.bits;
}

pub enters_instance : (w : PinWalk) → w.row.end ≤ w.row.low → w.instances.members.low < w.instances.members.end → GoesOn w (in_instance w)
enters_instance w done more =
    let of : ℕ → List LocalPin = λ i. map (child_pin w.instances.child i w.bits.port) (member_list w.bits.bits) in
    let rest = flat_map pins_of (drop w.next w.groups.now) in
    let none = ap (map (pin_of w.owner w.bits.port)) (members_none w.row.low w.row.end done) in
    let cut = ap (flat_map of) (members_from w.instances.members.low w.instances.members.end more) in
    record {
      same = sym (ap (λ (l : List LocalPin). (l ++ flat_map of (member_list w.instances.members)) ++ rest) none ∙ ap (λ (l : List LocalPin). l ++ rest) cut);
      fewer = omega arith;
    }

-- what is left of a list from a place on, the element there apart
pub drop_at : {X : Type 0} (xs : List X) (n : ℕ) (x : X) → slice_get xs n ≡ Some x → drop n xs ≡ x ∷ drop (n + 1) xs
drop_at xs n x is =
    let inside = slice_get_within xs n x is in
    let next : suc n ≡ n + 1 = omega arith in
    drop-cons xs n x inside ∙ (ap (λ (y : _). y ∷ drop (suc n) xs) (get_or_from_slice_get xs n x x is) ∙ ap (λ (m : ℕ). x ∷ drop m xs) next)

abbrev pub in_group : PinWalk → PinGroup → Option ChildAt → Instances → Members → PinWalk
in_group w group owner instances row = record w { next = w.next + 1; instances = instances; bits = group.bits; owner = owner; row = row }

pins_of_own : (g : PinGroup) → g.of ≡ None → pins_of g ≡ map (pin_of None g.bits.port) (member_list g.bits.bits)
pins_of_own g none = ap (λ (of : Option Instances). pins_of (record { of = of; bits = g.bits })) none

pins_of_child : (g : PinGroup) (of : Instances) → g.of ≡ Some of → pins_of g ≡ flat_map (λ i. map (child_pin of.child i g.bits.port) (member_list g.bits.bits)) (member_list of.members)
pins_of_child g of is = ap (λ (of : Option Instances). pins_of (record { of = of; bits = g.bits })) is

-- a walk that is done with its group has the pins of the next group to give, and of those behind
next_group : (w : PinWalk) (g : PinGroup) → w.row.end ≤ w.row.low → w.instances.members.end ≤ w.instances.members.low → slice_get w.groups.now w.next ≡ Some g →
    pins_left w ≡ pins_of g ++ flat_map pins_of (drop (w.next + 1) w.groups.now)
next_group w g done last is =
    let of : ℕ → List LocalPin = λ i. map (child_pin w.instances.child i w.bits.port) (member_list w.bits.bits) in
    let rest = flat_map pins_of (drop w.next w.groups.now) in
    let no_row = ap (map (pin_of w.owner w.bits.port)) (members_none w.row.low w.row.end done) in
    let no_instance = ap (flat_map of) (members_none w.instances.members.low w.instances.members.end last) in
    ap (λ (l : List LocalPin). (l ++ flat_map of (member_list w.instances.members)) ++ rest) no_row
    ∙ (ap (λ (l : List LocalPin). l ++ rest) no_instance ∙ ap (flat_map pins_of) (drop_at w.groups.now w.next g is))

entries_next : (w : PinWalk) (g : PinGroup) → slice_get w.groups.now w.next ≡ Some g →
    entries_left w ≡ (w.instances.members.end - w.instances.members.low) + ((instance_count g.of + 1) + entries_of (drop (w.next + 1) w.groups.now))
entries_next w g is = ap (λ (l : List PinGroup). (w.instances.members.end - w.instances.members.low) + entries_of l) (drop_at w.groups.now w.next g is)

pub enters_own : (w : PinWalk) (g : PinGroup) → w.row.end ≤ w.row.low → w.instances.members.end ≤ w.instances.members.low → slice_get w.groups.now w.next ≡ Some g →
    g.of ≡ None → GoesOn w (in_group w g None (record { child = w.instances.child; members = members 0 0 }) g.bits.bits)
enters_own w g done last is own = record {
  same = ap (λ (l : List LocalPin). l ++ flat_map pins_of (drop (w.next + 1) w.groups.now))
      (append-nil (map (pin_of None g.bits.port) (member_list g.bits.bits)) ∙ sym (pins_of_own g own)) ∙ sym (next_group w g done last is);
  fewer = omega (arith, entries_next w g is);
}

pub enters_child : (w : PinWalk) (g : PinGroup) (of : Instances) → w.row.end ≤ w.row.low → w.instances.members.end ≤ w.instances.members.low →
    slice_get w.groups.now w.next ≡ Some g → g.of ≡ Some of → GoesOn w (in_group w g w.owner of (members 0 0))
enters_child w g of done last is child = record {
  same = ap (λ (l : List LocalPin). l ++ flat_map pins_of (drop (w.next + 1) w.groups.now)) (sym (pins_of_child g of child)) ∙ sym (next_group w g done last is);
  fewer = omega (arith, entries_next w g is, ap instance_count child);
}

-- nothing is left where the groups end
pub walk_ends : (w : PinWalk) → w.row.end ≤ w.row.low → w.instances.members.end ≤ w.instances.members.low → drop w.next w.groups.now ≡ [] → pins_left w ≡ []
walk_ends w done last none =
    let of : ℕ → List LocalPin = λ i. map (child_pin w.instances.child i w.bits.port) (member_list w.bits.bits) in
    let rest = flat_map pins_of (drop w.next w.groups.now) in
    let no_row = ap (map (pin_of w.owner w.bits.port)) (members_none w.row.low w.row.end done) in
    let no_instance = ap (flat_map of) (members_none w.instances.members.low w.instances.members.end last) in
    ap (λ (l : List LocalPin). (l ++ flat_map of (member_list w.instances.members)) ++ rest) no_row
    ∙ (ap (λ (l : List LocalPin). l ++ rest) no_instance ∙ ap (flat_map pins_of) none)

-- the first pin of the row
pub gives_pin : (w : PinWalk) → w.row.low < w.row.end → pins_left w ≡ pin_of w.owner w.bits.port w.row.low ∷ pins_left (record w { row = members (w.row.low + 1) w.row.end })
gives_pin w some =
    let of : ℕ → List LocalPin = λ i. map (child_pin w.instances.child i w.bits.port) (member_list w.bits.bits) in
    let rest = flat_map pins_of (drop w.next w.groups.now) in
    let cut = ap (map (pin_of w.owner w.bits.port)) (members_from w.row.low w.row.end some) in
    ap (λ (l : List LocalPin). (l ++ flat_map of (member_list w.instances.members)) ++ rest) cut
