-- Tables of joints, one for each way round.
use Rattle.std.proofs.Common.{◌≡◌, ◌<◌, ◌==◌, ℕ, zero, suc, true, List, Some, length, map, filter, sym, ap, ◌∙◌, subst, inl, inr, arith}
use Rattle.std.specs.Prelude.{◌↔◌}
use Rattle.std.specs.List.{All}
use Rattle.std.proofs.lemmas.Bool.Decides.{nat_tests}
use Rattle.std.proofs.lemmas.Option.{slice_get_within}
use Rattle.std.proofs.lemmas.List.FromFn.{length-map-range_with_len}
use Rattle.vtr_base.specs.Lists.{Has}
use Rattle.list_laws.proofs.Members.{has_filter, from_filter, has_map, from_map, each_has}
use Rattle.list_laws.proofs.Places.{made_at}
use Rattle.flat_tables.specs.Groups.{items_of, groups_of}
use Rattle.joint_classes.specs.Classes.{AreJoined, Lead, AreConnected}
use Rattle.joint_classes.specs.Members.{Lists, IsNext, Steps, Reaches, AreTables}

abbrev Pair : Type 0
Pair = ℕ × ℕ

abbrev pub turn : Pair → Pair
turn p = (p.1, p.0)

same_key : (a b : ℕ) → (a == b) ≡ true → a ≡ b
same_key a b e = grind (arith, nat_tests)

its_key : (a : ℕ) → (a == a) ≡ true
its_key a = grind (arith, nat_tests)

pub groups_long : (pairs : List Pair) (n : ℕ) → length (groups_of pairs n) ≡ n
groups_long pairs n = length-map-range_with_len (items_of pairs) 0 n

pub lists_pair : (pairs : List Pair) (n a b : ℕ) → Lists (groups_of pairs n) a b → Has {X = Pair} pairs (a, b)
lists_pair pairs n a b (group, is, has) =
    let low = slice_get_within (groups_of pairs n) a group is in
    let made = made_at (items_of pairs) n a (omega (arith, low, groups_long pairs n)) in
    let e : Some group ≡ Some (items_of pairs a) = sym is ∙ made in
    let same : group ≡ items_of pairs a = cc e in
    let m = from_map (λ (p : Pair). p.1) (filter (λ (p : Pair). p.0 == a) pairs) b (subst (λ (l : List ℕ). Has l b) same has) in
    let f = from_filter (λ (p : Pair). p.0 == a) pairs m.item m.has in
    let key = same_key m.item.0 a f.1 in
    let whole : m.item ≡ (a, b) = ap (λ (k : ℕ). (k, m.item.1)) key ∙ ap (λ (k : ℕ). (a, k)) (sym m.is) in
    subst (λ (p : Pair). Has {X = Pair} pairs p) whole f.0

pub pair_lists : (pairs : List Pair) (n a b : ℕ) → a < n → Has {X = Pair} pairs (a, b) → Lists (groups_of pairs n) a b
pair_lists pairs n a b low has = (items_of pairs a, made_at (items_of pairs) n a low, has_map (λ (p : Pair). p.1) (filter (λ (p : Pair). p.0 == a) pairs) (a, b) (has_filter (λ (p : Pair). p.0 == a) pairs (a, b) has (its_key a)))

module _ (joints : List Pair) (count : ℕ) (nexts prevs : List (List ℕ)) (is_nexts : nexts ≡ groups_of joints count) (is_prevs : prevs ≡ groups_of (map turn joints) count)
    (low : All (λ (p : Pair). (p.0 < count) × (p.1 < count)) joints) where
  pub next_joined : (a b : ℕ) → IsNext nexts prevs a b → AreJoined joints a b
  next_joined a b (inl lists) = inl (lists_pair joints count a b (subst (λ (t : List (List ℕ)). Lists t a b) is_nexts lists))
  next_joined a b (inr lists) =
      let has = lists_pair (map turn joints) count a b (subst (λ (t : List (List ℕ)). Lists t a b) is_prevs lists) in
      let m = from_map turn joints (a, b) has in
      let whole : m.item ≡ (b, a) = ap turn (sym m.is) in
      inr (subst (λ (p : Pair). Has {X = Pair} joints p) whole m.has)

  pub joined_next : (a b : ℕ) → a < count → AreJoined joints a b → IsNext nexts prevs a b
  joined_next a b below (inl has) = inl (subst (λ (t : List (List ℕ)). Lists t a b) (sym is_nexts) (pair_lists joints count a b below has))
  joined_next a b below (inr has) = inr (subst (λ (t : List (List ℕ)). Lists t a b) (sym is_prevs) (pair_lists (map turn joints) count a b below (has_map turn joints (b, a) has)))

  both_low : (a b : ℕ) → AreJoined joints a b → (a < count) × (b < count)
  both_low a b (inl has) = each_has (λ (p : Pair). (p.0 < count) × (p.1 < count)) joints low (a, b) has
  both_low a b (inr has) = let r = each_has (λ (p : Pair). (p.0 < count) × (p.1 < count)) joints low (b, a) has in (r.1, r.0)

  swap : (a b : ℕ) → AreJoined joints a b → AreJoined joints b a
  swap a b (inl has) = inr has
  swap a b (inr has) = inl has

  pub are_tables : AreTables nexts prevs count
  are_tables = record {
    next_long = ap length is_nexts ∙ groups_long joints count;
    prev_long = ap length is_prevs ∙ groups_long (map turn joints) count;
    low = λ a b next. (both_low a b (next_joined a b next)).1;
    turned = λ a b next. joined_next b a (both_low a b (next_joined a b next)).1 (swap a b (next_joined a b next));
  }

  lead_of : (steps a b : ℕ) → Steps nexts prevs steps a b → Lead joints steps a b
  lead_of zero a b way = way
  lead_of (suc steps) a b (c, next, rest) = (c, next_joined a c next, lead_of steps c b rest)

  steps_of : (steps a b : ℕ) → a < count → Lead joints steps a b → Steps nexts prevs steps a b
  steps_of zero a b below way = way
  steps_of (suc steps) a b below (c, joined, rest) = (c, joined_next a c below joined, steps_of steps c b (both_low a c joined).1 rest)

  pub connected : (a b : ℕ) → a < count → Reaches nexts prevs a b ↔ AreConnected joints a b
  connected a b below = (λ (steps, way). (steps, lead_of steps a b way), λ (steps, way). (steps, steps_of steps a b below way))

pub turned_low : (joints turned : List Pair) (count : ℕ) → turned ≡ map turn joints → All (λ (p : Pair). (p.0 < count) × (p.1 < count)) joints → (p : Pair) → Has turned p → p.0 < count
turned_low joints turned count is low p has =
    let m = from_map turn joints p (subst (λ (l : List Pair). Has l p) is has) in
    let r = each_has (λ (q : Pair). (q.0 < count) × (q.1 < count)) joints low m.item m.has in
    subst (λ (q : Pair). q.0 < count) (sym m.is) r.1
