-- What a matching of atoms with their open leaves says of the task.
use Rattle.std.proofs.Common.{◌≡◌, ◌<◌, ◌+◌, inl, inr, ℕ, zero, suc, true, false, List, [], ◌∷◌, Option, Some, None, length, map, slice_get, get_or, refl, sym, ap, ◌∙◌, subst, arith}
use Rattle.std.proofs.lemmas.List.{length-map}
use Rattle.std.specs.Prelude.{slice_index, slice_index_or}
use Rattle.std.specs.List.{All, Contains, range_with_len}
use Rattle.std.proofs.lemmas.Bool.{cases_lt}
use Rattle.std.proofs.lemmas.Option.{get_or_from_slice_get, slice_get_within, slice_get_read, slice_get-get_or}
use Rattle.std.proofs.lemmas.List.FromFn.{length-range_with_len, get_or-range_with_len}
use Rattle.std.proofs.lemmas.List.Elements.{All-from_get_or}
use Rattle.vtr_base.specs.Lists.{Has}
use Rattle.list_laws.specs.Orders.{StandOnce}
use Rattle.list_laws.proofs.Members.{has_at, at_has}
use Rattle.pb_expand.specs.Graph.{Graph}
use Rattle.task_types.specs.declared.task.Task.{Task}
use Rattle.task_types.specs.declared.decision.Decision.{Decision}
use Rattle.task_types.specs.declared.tree.TreeNode.TheVariants.{Homeless}
use Rattle.task_types.specs.Nets.{NetSaid}
use Rattle.task_types.specs.Open.{IsOpenTo}
use Rattle.task_reach.specs.Valid.{IsTaskOf}
use Rattle.matching.specs.Bipartite.{State, GoTogether, IsViolator, IsPartial, AreApart, AllPlaced}
use Rattle.search_rules.specs.Closing.{Closes, AreHoused}
use Rattle.search_homes.specs.Pairs.{AreOpenPairs}
use Rattle.search_homes.proofs.Pairing.{open_inside}

contains_has : {X : Type 0} (xs : List X) (x : X) → Contains xs x → Has xs x
contains_has xs x there = has_at xs there.0 x (slice_get_read xs (length xs) there.0 x refl there.1 (sym there.2))

has_contains : {X : Type 0} (xs : List X) (x : X) → Has xs x → Contains xs x
has_contains xs x has = let r = at_has xs x has in (r.0, slice_get_within xs r.0 x r.1, get_or_from_slice_get xs r.0 x x r.1)

apart_once : (xs : List ℕ) → AreApart xs → StandOnce xs
apart_once xs apart i j x at_i at_j = elim (cases_lt i j) [
  | inl less ↦ absurd (apart i j less (slice_get_within xs j x at_j) (get_or_from_slice_get xs i x 0 at_i ∙ sym (get_or_from_slice_get xs j x 0 at_j)))
  | inr more ↦ elim (cases_lt j i) [
    | inl less ↦ absurd (apart j i less (slice_get_within xs i x at_i) (get_or_from_slice_get xs j x 0 at_j ∙ sym (get_or_from_slice_get xs i x 0 at_i)))
    | inr equal ↦ omega (arith, more, equal)
  ]
]

-- the leaf of an atom that is placed
leaf_of : Option ℕ → ℕ
leaf_of None = 0
leaf_of (Some leaf) = leaf

leaf_at : (places : List (Option ℕ)) (k leaf : ℕ) → AllPlaced places → slice_get (map leaf_of places) k ≡ Some leaf → slice_index_or places k None ≡ Some leaf
unfolding leaf_of
leaf_at [] k leaf all is = absurd (let bad : ⊥ = cc is in bad)
leaf_at (None ∷ places) zero leaf all is = absurd (let bad : false ≡ true = all 0 (omega arith) in cc bad)
leaf_at (Some x ∷ places) zero leaf all is = is
leaf_at (o ∷ places) (suc k) leaf all is = leaf_at places k leaf (λ l less. all (suc l) (omega (arith, less))) is

module _ (g : Graph) (t : Task) (made : List Decision) (pairs : List (ℕ × ℕ)) (open' : AreOpenPairs g t made (length t.atoms) pairs) where
  row_of : (atom : ℕ) → atom < length t.atoms → slice_index (range_with_len 0 (length t.atoms)) atom ≡ atom
  row_of atom less = get_or-range_with_len 0 (length t.atoms) atom 0 less ∙ (let e : 0 + atom ≡ atom = omega arith in e)

  count : length (range_with_len 0 (length t.atoms)) ≡ length t.atoms
  count = length-range_with_len 0 (length t.atoms)

  opens_of : (atom leaf : ℕ) → GoTogether (record { rows = range_with_len 0 (length t.atoms); pairs = pairs }) atom leaf → IsOpenTo g t made atom leaf
  opens_of atom leaf go =
      let inside : atom < length t.atoms = omega (arith, go.0, count) in
      (open'.each atom leaf (contains_has pairs (atom, leaf) (subst (λ k. Contains {X = ℕ × ℕ} pairs (k, leaf)) (row_of atom inside) go.1))).1

  goes_of : (atom leaf : ℕ) → atom < length t.atoms → IsOpenTo g t made atom leaf → GoTogether (record { rows = range_with_len 0 (length t.atoms); pairs = pairs }) atom leaf
  goes_of atom leaf inside opens = (
    omega (arith, inside, count),
    subst (λ k. Contains {X = ℕ × ℕ} pairs (k, leaf)) (sym (row_of atom inside)) (has_contains pairs (atom, leaf) (open'.all atom leaf inside opens)),
  )

  pub violator_closes : (n : NetSaid) (lefts rights : List ℕ) → IsViolator (record { rows = range_with_len 0 (length t.atoms); pairs = pairs }) lefts rights → Closes g n t made (Homeless lefts)
  violator_closes n lefts rights is =
      let within : (k : ℕ) → k < length lefts → slice_index lefts k < length t.atoms = λ k less. (let w = is.within k less in omega (arith, w, count)) in
      let atoms_of : (atom : ℕ) → Has lefts atom → atom < length t.atoms = λ atom has. (
      let r = at_has lefts atom has in
      subst (λ a. a < length t.atoms) (get_or_from_slice_get lefts r.0 atom 0 r.1) (within r.0 (slice_get_within lefts r.0 atom r.1))) in
      record {
        closing = tt;
        accepted = record {
          atoms_of = atoms_of;
          once = apart_once lefts is.lefts_apart;
          leaves = rights;
          all = λ atom leaf has opens. contains_has rights leaf (is.all atom leaf (has_contains lefts atom has) (goes_of atom leaf (atoms_of atom has) opens));
          fewer = omega (arith, is.one_more);
        };
        inside = All-from_get_or (λ (atom : ℕ). atom < length t.atoms) lefts 0 within;
      }

  pub placing_houses : (places owners : List (Option ℕ)) → IsPartial (record { rows = range_with_len 0 (length t.atoms); pairs = pairs }) places owners → AllPlaced places → AreHoused g t made
  placing_houses places owners is all = record {
    leaves = map leaf_of places;
    long = length-map places leaf_of ∙ is.lefts ∙ count;
    open' = λ atom leaf at. opens_of atom leaf (is.joined atom leaf (leaf_at places atom leaf all at));
    once = λ i j leaf at_i at_j. (
        let one = is.owned i leaf (leaf_at places i leaf all at_i) in
        let other = is.owned j leaf (leaf_at places j leaf all at_j) in
        let e : Some i ≡ Some j = sym one ∙ other in cc e);
  }

pub rows_inside : (rows : List ℕ) (n : ℕ) → rows ≡ range_with_len 0 n → All (λ (row : ℕ). row < n) rows
rows_inside rows n is =
    subst (λ l. All (λ (row : ℕ). row < n) l) (sym is) (All-from_get_or (λ (row : ℕ). row < n) (range_with_len 0 n) 0 (λ k less.
    let inside : k < n = omega (arith, less, length-range_with_len 0 n) in
    omega (arith, inside, get_or-range_with_len 0 n k 0 inside)))

pub pairs_inside : (g : Graph) (t : Task) (made : List Decision) (pairs : List (ℕ × ℕ)) (n m : ℕ) → IsTaskOf g t → AreOpenPairs g t made (length t.atoms) pairs → n ≡ length t.atoms → m ≡ length g.instances →
    All {X = ℕ × ℕ} (λ p. (p.0 < n) × (p.1 < m)) pairs
pairs_inside g t made pairs n m task are is_n is_m =
    All-from_get_or {X = ℕ × ℕ} (λ p. (p.0 < n) × (p.1 < m)) pairs (0, 0) (λ k less.
    let p : ℕ × ℕ = get_or {A = ℕ × ℕ} pairs k (0, 0) in
    let r = are.each p.0 p.1 (has_at {X = ℕ × ℕ} pairs k p (slice_get-get_or {X = ℕ × ℕ} pairs k (0, 0) less)) in
    let inside = open_inside g t made p.0 p.1 task r.1 in
    (omega (arith, r.0, is_n), omega (arith, inside, is_m)))

module _ (g : Graph) (t : Task) (made : List Decision) (pairs : List (ℕ × ℕ)) (n : ℕ) (rows : List ℕ) (are : AreOpenPairs g t made (length t.atoms) pairs) (is_n : n ≡ length t.atoms) (is_rows : rows ≡ range_with_len 0 n) (m : State) (same : m.graph ≡ record { rows = rows; pairs = pairs }) where
  graph_is : m.graph ≡ record { rows = range_with_len 0 (length t.atoms); pairs = pairs }
  graph_is = same ∙ ap (λ l. record { rows = l; pairs = pairs }) (is_rows ∙ ap (λ k. range_with_len 0 k) is_n)

  pub houses : IsPartial m.graph m.place m.owner → AllPlaced m.place → AreHoused g t made
  houses partial all = placing_houses g t made pairs are m.place m.owner (subst (λ q. IsPartial q m.place m.owner) graph_is partial) all

  pub closes : (lefts rights atoms : List ℕ) → atoms ≡ lefts → IsViolator m.graph lefts rights → (net : NetSaid) → Closes g net t made (Homeless atoms)
  closes lefts rights atoms is violator net =
      subst (λ l. Closes g net t made (Homeless l)) (sym is) (violator_closes g t made pairs are net lefts rights (subst (λ q. IsViolator q lefts rights) graph_is violator))
