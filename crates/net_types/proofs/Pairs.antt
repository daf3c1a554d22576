-- The connections that take nets, as pairs that are grouped by their nets.
use Rattle.std.proofs.Common.{◌≡◌, ◌<◌, ◌≤◌, ◌+◌, ◌==◌, ◌⊎◌, ℕ, zero, suc, List, [], ◌∷◌, ◌++◌, Some, length, drop, filter, get_or, slice_get, refl, append-nil, sym, ap, ◌∙◌, subst, inl, inr, arith}
use Rattle.std.proofs.lemmas.Bool.Decides.{nat_tests}
use Rattle.std.proofs.lemmas.List.FromFn.{length-map-range_with_len}
use Rattle.std.proofs.lemmas.List.{drop_all}
use Rattle.std.proofs.lemmas.Option.{slice_get_within, slice_get-get_or, get_or_from_slice_get}
use Rattle.std.specs.List.{All}
use Rattle.vtr_base.specs.Lists.{Has}
use Rattle.list_laws.specs.Orders.{Ordered}
use Rattle.list_laws.proofs.Members.{has_left, has_right, has_either, has_at, has_map, from_map, has_filter, from_filter}
use Rattle.list_laws.proofs.Places.{made_at}
use Rattle.list_laws.proofs.Sorting.{ordered_map, ordered_filter}
use Rattle.flat_tables.specs.Groups.{items_of, groups_of}
use Rattle.net_types.specs.declared.atom.Atom.{Atom}
use Rattle.net_types.specs.declared.atom.Conn.{Conn}
use Rattle.net_types.specs.Ends.{IsSink, ComesBefore, AreSinks}
use Rattle.net_types.specs.Pairs.{pairs_at}
use Rattle.net_types.specs.Inside.{HasSinks}
use Rattle.net_types.specs.WellFormed.{HaveNets}

abbrev Pair : Type 0
Pair = ℕ × (ℕ × ℕ)

abbrev pub place_of : ℕ → ℕ → ℕ × ℕ
place_of number place = (number, place)

abbrev pub pair_of : ℕ → ℕ → ℕ → Pair
pair_of net number place = (net, place_of number place)

-- the inputs of these atoms, the first of which has this number
abbrev pub pairs_from : ℕ → List Atom → List (ℕ × (ℕ × ℕ))
pairs_from n [] = []
pairs_from n (atom ∷ atoms) = pairs_at n 0 atom.ins ++ pairs_from (n + 1) atoms

-- the pair is of one of these connections
record IsOfConns (number place : ℕ) (conns : List Conn) (p : Pair) : Type 0 where
  pub at : ℕ
  pub conn : Conn
  pub there : slice_get conns at ≡ Some conn
  pub is : p ≡ pair_of conn.net number (place + at)

of_conns : (number place : ℕ) (conns : List Conn) (p : Pair) → Has (pairs_at number place conns) p → IsOfConns number place conns p
of_conns number place [] p has = absurd has
of_conns number place (c ∷ conns) p (inl is) =
    let same : place ≡ place + 0 = omega arith in
    record { at = 0; conn = c; there = refl; is = is ∙ ap (λ (k : ℕ). pair_of c.net number k) same }
of_conns number place (c ∷ conns) p (inr has) =
    let r = of_conns number (place + 1) conns p has in
    let same : place + 1 + r.at ≡ place + suc r.at = omega arith in
    record { at = suc r.at; conn = r.conn; there = r.there; is = r.is ∙ ap (λ (k : ℕ). pair_of r.conn.net number k) same }

has_conn : (number place : ℕ) (conns : List Conn) (at : ℕ) (conn : Conn) → slice_get conns at ≡ Some conn → Has (pairs_at number place conns) (pair_of conn.net number (place + at))
has_conn number place [] at conn there = absurd (cc)
has_conn number place (c ∷ conns) zero conn there =
    let is : conn ≡ c = cc in
    let same : place + 0 ≡ place = omega arith in
    inl (ap (λ (k : ℕ). pair_of conn.net number k) same ∙ ap (λ (d : Conn). pair_of d.net number place) is)
has_conn number place (c ∷ conns) (suc at) conn there =
    let same : place + 1 + at ≡ place + suc at = omega arith in
    inr (subst (λ (k : ℕ). Has (pairs_at number (place + 1) conns) (pair_of conn.net number k)) same (has_conn number (place + 1) conns at conn there))

record IsOfAtoms (n : ℕ) (atoms : List Atom) (p : Pair) : Type 0 where
  pub number : ℕ
  pub atom : Atom
  pub there : slice_get atoms number ≡ Some atom
  pub place : ℕ
  pub conn : Conn
  pub at : slice_get atom.ins place ≡ Some conn
  pub is : p ≡ pair_of conn.net (n + number) place

of_atoms : (n : ℕ) (atoms : List Atom) (p : Pair) → Has (pairs_from n atoms) p → IsOfAtoms n atoms p
of_atoms n [] p has = absurd has
of_atoms n (atom ∷ atoms) p has = by (has_either (pairs_at n 0 atom.ins) (pairs_from (n + 1) atoms) p has) (of_atoms (n + 1) atoms p)
  where
    by : Has (pairs_at n 0 atom.ins) p ⊎ Has (pairs_from (n + 1) atoms) p → (Has (pairs_from (n + 1) atoms) p → IsOfAtoms (n + 1) atoms p) → IsOfAtoms n (atom ∷ atoms) p
    by (inl here) rest =
        let r = of_conns n 0 atom.ins p here in
        let first : n ≡ n + 0 = omega arith in
        let at : 0 + r.at ≡ r.at = omega arith in
        record {
          number = 0;
          atom = atom;
          there = refl;
          place = r.at;
          conn = r.conn;
          at = r.there;
          is = r.is ∙ (ap (λ (k : ℕ). pair_of r.conn.net n k) at ∙ ap (λ (k : ℕ). pair_of r.conn.net k r.at) first);
        }
    by (inr later) rest =
        let r = rest later in
        let same : n + 1 + r.number ≡ n + suc r.number = omega arith in
        record {
          number = suc r.number;
          atom = r.atom;
          there = r.there;
          place = r.place;
          conn = r.conn;
          at = r.at;
          is = r.is ∙ ap (λ (k : ℕ). pair_of r.conn.net k r.place) same;
        }

has_atom : (n : ℕ) (atoms : List Atom) (number place : ℕ) (atom : Atom) (conn : Conn) → slice_get atoms number ≡ Some atom → slice_get atom.ins place ≡ Some conn →
    Has (pairs_from n atoms) (pair_of conn.net (n + number) place)
has_atom n [] number place atom conn there at = absurd (cc)
has_atom n (a ∷ atoms) zero place atom conn there at =
    let is : a ≡ atom = cc in
    let first : n ≡ n + 0 = omega arith in
    let here : 0 + place ≡ place = omega arith in
    has_left (pairs_at n 0 a.ins) (pairs_from (n + 1) atoms) (pair_of conn.net (n + 0) place)
    (subst (λ (k : ℕ). Has (pairs_at n 0 a.ins) (pair_of conn.net k place)) first
    (subst (λ (k : ℕ). Has (pairs_at n 0 a.ins) (pair_of conn.net n k)) here
    (has_conn n 0 a.ins place conn (ap (λ (b : Atom). slice_get b.ins place) is ∙ at))))
has_atom n (a ∷ atoms) (suc number) place atom conn there at =
    let same : n + 1 + number ≡ n + suc number = omega arith in
    has_right (pairs_at n 0 a.ins) (pairs_from (n + 1) atoms) (pair_of conn.net (n + suc number) place)
    (subst (λ (k : ℕ). Has (pairs_from (n + 1) atoms) (pair_of conn.net k place)) same (has_atom (n + 1) atoms number place atom conn there at))

-- they ascend

abbrev Before : Pair → Pair → Type 0
Before p q = ComesBefore p.1 q.1

ordered_append : (xs ys : List Pair) → Ordered Before xs → Ordered Before ys → ((x y : Pair) → Has xs x → Has ys y → Before x y) → Ordered Before (xs ++ ys)
ordered_append [] ys by_xs by_ys across = by_ys
ordered_append (x ∷ xs) ys by_xs by_ys across = (
  λ y has. by y (has_either xs ys y has),
  ordered_append xs ys by_xs.1 by_ys (λ z y has_z has_y. across z y (inr has_z) has_y),
)
  where
    by : (y : Pair) → Has xs y ⊎ Has ys y → Before x y
    by y (inl front) = by_xs.0 y front
    by y (inr back) = across x y (inl refl) back

conns_ascend : (number place : ℕ) (conns : List Conn) → Ordered Before (pairs_at number place conns)
conns_ascend number place [] = tt
conns_ascend number place (c ∷ conns) = (λ p has. by p (of_conns number (place + 1) conns p has), conns_ascend number (place + 1) conns)
  where
    by : (p : Pair) → IsOfConns number (place + 1) conns p → Before (pair_of c.net number place) p
    by p r =
        let same : p.1.0 ≡ number = ap (λ (q : Pair). q.1.0) r.is in
        let at : p.1.1 ≡ place + 1 + r.at = ap (λ (q : Pair). q.1.1) r.is in
        inr (sym same, omega (arith, at))

atoms_ascend : (n : ℕ) (atoms : List Atom) → Ordered Before (pairs_from n atoms)
atoms_ascend n [] = tt
atoms_ascend n (atom ∷ atoms) = ordered_append (pairs_at n 0 atom.ins) (pairs_from (n + 1) atoms) (conns_ascend n 0 atom.ins) (atoms_ascend (n + 1) atoms) across
  where
    across : (x y : Pair) → Has (pairs_at n 0 atom.ins) x → Has (pairs_from (n + 1) atoms) y → Before x y
    across x y has_x has_y =
        let r = of_conns n 0 atom.ins x has_x in
        let s = of_atoms (n + 1) atoms y has_y in
        let low : x.1.0 ≡ n = ap (λ (q : Pair). q.1.0) r.is in
        let high : y.1.0 ≡ n + 1 + s.number = ap (λ (q : Pair). q.1.0) s.is in
        inl (omega (arith, low, high))

-- the pairs of all atoms

pub pairs_whole : (atoms : List Atom) (n : ℕ) (pairs : List (ℕ × (ℕ × ℕ))) → length atoms ≤ n → pairs ++ pairs_from n (drop n atoms) ≡ pairs_from 0 atoms →
    pairs ≡ pairs_from 0 atoms
pairs_whole atoms n pairs past is =
    let none : pairs_from n (drop n atoms) ≡ [] = ap (λ (l : List Atom). pairs_from n l) (drop_all n atoms past) in
    sym (append-nil pairs) ∙ (ap (λ (l : List Pair). pairs ++ l) (sym none) ∙ is)

-- their nets are there
pub keys_below : (atoms : List Atom) (nets : ℕ) → HaveNets nets atoms → (k : ℕ) (d : ℕ × (ℕ × ℕ)) → k < length (pairs_from 0 atoms) → (get_or (pairs_from 0 atoms) k d).0 < nets
keys_below atoms nets within k d low =
    let p = get_or (pairs_from 0 atoms) k d in
    let r = of_atoms 0 atoms p (has_at (pairs_from 0 atoms) k p (slice_get-get_or (pairs_from 0 atoms) k d low)) in
    let is : p.0 ≡ r.conn.net = ap (λ (q : Pair). q.0) r.is in
    let of_atom = (within r.number r.atom (slice_get_within atoms r.number r.atom r.there)).0 in
    let atom_is : get_or atoms r.number r.atom ≡ r.atom = get_or_from_slice_get atoms r.number r.atom r.atom r.there in
    let ins = subst (λ (a : Atom). All (λ (c : Conn). c.net < nets) a.ins) atom_is of_atom in
    let conn_is : get_or r.atom.ins r.place r.conn ≡ r.conn = get_or_from_slice_get r.atom.ins r.place r.conn r.conn r.at in
    let conn = subst (λ (c : Conn). c.net < nets) conn_is (ins r.place r.conn (slice_get_within r.atom.ins r.place r.conn r.at)) in
    subst (λ (m : ℕ). m < nets) (sym is) conn

-- grouped by nets

in_group : (pairs : List Pair) (key : ℕ) (item : ℕ × ℕ) → Has {X = Pair} pairs (key, item) → Has (items_of pairs key) item
in_group pairs key item has =
    has_map (λ (p : Pair). p.1) (filter (λ (p : Pair). p.0 == key) pairs) (key, item)
    (has_filter (λ (p : Pair). p.0 == key) pairs (key, item) has (grind (arith, nat_tests)))

from_group : (pairs : List Pair) (key : ℕ) (item : ℕ × ℕ) → Has (items_of pairs key) item → Has {X = Pair} pairs (key, item)
from_group pairs key item has =
    let found = from_map (λ (p : Pair). p.1) (filter (λ (p : Pair). p.0 == key) pairs) item has in
    let there = from_filter (λ (p : Pair). p.0 == key) pairs found.item found.has in
    let same : found.item.0 ≡ key = grind (arith, nat_tests, there.1) in
    let pair : found.item ≡ (key, item) = pairs_same found.item key item same found.is in
    subst (λ (p : Pair). Has pairs p) pair there.0
  where
    pairs_same : (p : Pair) (key : ℕ) (item : ℕ × ℕ) → p.0 ≡ key → item ≡ p.1 → p ≡ (key, item)
    pairs_same p key item one other =
        let left : p ≡ pair_of key p.1.0 p.1.1 = ap (λ (k : ℕ). pair_of k p.1.0 p.1.1) one in
        left ∙ ap (λ (i : ℕ × ℕ). pair_of key i.0 i.1) (sym other)

pub sinks_are : (atoms : List Atom) (nets : ℕ) (table : List (List (ℕ × ℕ))) → table ≡ groups_of (pairs_from 0 atoms) nets → HasSinks atoms nets table
sinks_are atoms nets table is = record { long = long; each = each }
  where
    long : length table ≡ nets
    long = ap (λ (t : List (List (ℕ × ℕ))). length t) is ∙ length-map-range_with_len (items_of (pairs_from 0 atoms)) 0 nets

    forth : (net number place : ℕ) → Has {X = ℕ × ℕ} (items_of (pairs_from 0 atoms) net) (number, place) → IsSink atoms net number place
    forth net number place has =
        let r = of_atoms 0 atoms (pair_of net number place) (from_group (pairs_from 0 atoms) net (place_of number place) has) in
        let number_is : number ≡ 0 + r.number = ap (λ (q : Pair). q.1.0) r.is in
        let zero_is : 0 + r.number ≡ r.number = omega arith in
        let place_is : place ≡ r.place = ap (λ (q : Pair). q.1.1) r.is in
        record {
          atom = r.atom;
          there = ap (λ (k : ℕ). slice_get atoms k) (number_is ∙ zero_is) ∙ r.there;
          conn = r.conn;
          at = ap (λ (k : ℕ). slice_get r.atom.ins k) place_is ∙ r.at;
          of_net = sym (ap (λ (q : Pair). q.0) r.is);
        }

    back : (net number place : ℕ) → IsSink atoms net number place → Has {X = ℕ × ℕ} (items_of (pairs_from 0 atoms) net) (number, place)
    back net number place r =
        let same : 0 + number ≡ number = omega arith in
        in_group (pairs_from 0 atoms) net (place_of number place)
        (subst (λ (k : ℕ). Has (pairs_from 0 atoms) (pair_of net k place)) same
        (subst (λ (k : ℕ). Has (pairs_from 0 atoms) (pair_of k (0 + number) place)) r.of_net (has_atom 0 atoms number place r.atom r.conn r.there r.at)))

    group : (net : ℕ) → AreSinks atoms net (items_of (pairs_from 0 atoms) net)
    group net = record {
      ascend = ordered_map ComesBefore (λ (p : Pair). p.1) (filter (λ (p : Pair). p.0 == net) (pairs_from 0 atoms))
          (ordered_filter Before (λ (p : Pair). p.0 == net) (pairs_from 0 atoms) (atoms_ascend 0 atoms));
      each = λ number place. (forth net number place, back net number place);
    }

    each : (net : ℕ) (sinks : List (ℕ × ℕ)) → slice_get table net ≡ Some sinks → AreSinks atoms net sinks
    each net sinks at =
        let low : net < nets = omega (arith, slice_get_within table net sinks at, long) in
        let made = ap (λ (t : List (List (ℕ × ℕ))). slice_get t net) is ∙ made_at (items_of (pairs_from 0 atoms)) nets net low in
        let both : Some (items_of (pairs_from 0 atoms) net) ≡ Some sinks = sym made ∙ at in
        let same : items_of (pairs_from 0 atoms) net ≡ sinks = cc in
        subst (λ (l : List (ℕ × ℕ)). AreSinks atoms net l) same (group net)
