-- The pairs of wires grouped by one of their ends.
use Rattle.std.proofs.Common.{◌≡◌, ◌<◌, ◌≤◌, ◌+◌, ◌==◌, ◌⊎◌, ℕ, List, [], ◌∷◌, ◌++◌, Some, length, filter, slice_get, get_or, refl, sym, ap, ◌∙◌, subst, inl, inr, arith}
use Rattle.std.proofs.lemmas.Bool.{cases_eq}
use Rattle.std.proofs.lemmas.Bool.Decides.{nat_tests}
use Rattle.std.proofs.lemmas.List.{length_push}
use Rattle.std.proofs.lemmas.List.FromFn.{length-map-range_with_len}
use Rattle.std.proofs.lemmas.Option.{slice_get_within, slice_get-get_or}
use Rattle.vtr_base.specs.Lists.{Has}
use Rattle.list_laws.specs.Orders.{Ordered}
use Rattle.list_laws.proofs.Members.{has_left, has_last, has_at, has_pushed, has_map, from_map, has_filter, from_filter}
use Rattle.list_laws.proofs.Places.{made_at}
use Rattle.list_laws.proofs.Sorting.{ordered_map, ordered_filter}
use Rattle.flat_tables.specs.Groups.{items_of, groups_of}
use Rattle.rr_wires.specs.declared.types.End.{End}
use Rattle.rr_wires.specs.declared.types.OwnedEdge.{OwnedEdge}
use Rattle.rr_wires.specs.declared.types.REdgeIx.{REdgeIx}
use Rattle.rr_wires.specs.declared.types.WireIx.{WireIx}
use Rattle.rr_wires.specs.Tables.{end_of, AreEdgesAt, HasLists, EndsBelow}
use Rattle.rr_wires.proofs.Keys.{wire_same}
use Rattle.rr_wires.proofs.Orders.{ordered_pushed}

abbrev pub redge_ix : ℕ → REdgeIx
redge_ix n = record { 0 = n }

abbrev pub keyed : ℕ → REdgeIx → ℕ × REdgeIx
keyed key number = (key, number)

-- the pair with this number has the end with this key
pub record IsKeyed (edges : List OwnedEdge) (end : End) (n key : ℕ) (number : REdgeIx) : Type 0 where
  pub owned : OwnedEdge
  pub at : slice_get edges number.0 ≡ Some owned
  pub low : number.0 < n
  pub is : (end_of end owned.redge).0 ≡ key

-- the first n pairs with the wires at this end
pub record AreKeyed (edges : List OwnedEdge) (end : End) (n : ℕ) (pairs : List (ℕ × REdgeIx)) : Type 0 where
  pub ascend : Ordered (λ (p q : ℕ × REdgeIx). p.1.0 < q.1.0) pairs
  pub forth : (key : ℕ) (number : REdgeIx) → Has pairs (key, number) → IsKeyed edges end n key number
  pub back : (key : ℕ) (number : REdgeIx) → IsKeyed edges end n key number → Has pairs (key, number)
  pub long : length pairs ≡ n

pub none_keyed : (edges : List OwnedEdge) (end : End) (pairs : List (ℕ × REdgeIx)) → pairs ≡ [] → AreKeyed edges end 0 pairs
none_keyed edges end pairs is = subst (λ (l : List (ℕ × REdgeIx)). AreKeyed edges end 0 l) (sym is) (record {
  ascend = tt;
  forth = λ key number has. absurd has;
  back = λ key number r. absurd (omega (arith, r.low));
  long = refl;
})

module _ (edges : List OwnedEdge) (end : End) (n : ℕ) (o : OwnedEdge) (at : slice_get edges n ≡ Some o) (pairs : List (ℕ × REdgeIx)) (are : AreKeyed edges end n pairs) where
  abbrev last : ℕ × REdgeIx
  last = keyed (end_of end o.redge).0 (redge_ix n)

  up : (key : ℕ) (number : REdgeIx) → Has pairs (key, number) ⊎ (keyed key number ≡ last) → IsKeyed edges end (n + 1) key number
  up key number (inl front) = let r = are.forth key number front in record { owned = r.owned; at = r.at; low = omega (arith, r.low); is = r.is }
  up key number (inr is) =
      let place : number.0 ≡ n = ap (λ (p : ℕ × REdgeIx). p.1.0) is in
      record {
        owned = o;
        at = ap (λ (k : ℕ). slice_get edges k) place ∙ at;
        low = omega (arith, place);
        is = sym (ap (λ (p : ℕ × REdgeIx). p.0) is);
      }

  down : (key : ℕ) (number : REdgeIx) → IsKeyed edges end (n + 1) key number → (number.0 ≡ n) ⊎ (number.0 ≡ n → ⊥) → Has (pairs ++ last ∷ []) (key, number)
  down key number r (inr other) =
      has_left pairs (last ∷ []) (key, number) (are.back key number (record { owned = r.owned; at = r.at; low = omega (arith, r.low, other); is = r.is }))
  down key number r (inl here) =
      let same_at : slice_get edges n ≡ Some r.owned = ap (λ (k : ℕ). slice_get edges k) (sym here) ∙ r.at in
      let same : o ≡ r.owned = cc in
      let key_is : key ≡ (end_of end o.redge).0 = sym r.is ∙ ap (λ (p : OwnedEdge). (end_of end p.redge).0) (sym same) in
      subst (λ (p : ℕ × REdgeIx). Has (pairs ++ last ∷ []) p)
      (ap (λ (k : ℕ). keyed k (redge_ix n)) (sym key_is) ∙ ap (λ (k : ℕ). keyed key (redge_ix k)) (sym here)) (has_last pairs last)

  pub one_more_keyed : AreKeyed edges end (n + 1) (pairs ++ last ∷ [])
  one_more_keyed = record {
    ascend = ordered_pushed (λ (p q : ℕ × REdgeIx). p.1.0 < q.1.0) pairs last are.ascend (λ p has. (are.forth p.0 p.1 has).low);
    forth = λ key number has. up key number (has_pushed pairs last (key, number) has);
    back = λ key number r. down key number r (cases_eq number.0 n);
    long = omega (arith, length_push pairs last, are.long);
  }

pub keyed_step : (edges : List OwnedEdge) (end : End) (n : ℕ) (d : OwnedEdge) → n < length edges → (pairs new : List (ℕ × REdgeIx)) → AreKeyed edges end n pairs →
    new ≡ pairs ++ keyed (end_of end (get_or edges n d).redge).0 (redge_ix n) ∷ [] → AreKeyed edges end (n + 1) new
keyed_step edges end n d within pairs new are is =
    subst (λ (l : List (ℕ × REdgeIx)). AreKeyed edges end (n + 1) l) (sym is)
    (one_more_keyed edges end n (get_or edges n d) (slice_get-get_or edges n d within) pairs are)

-- the keys are wires that are there
pub keys_below : (edges : List OwnedEdge) (end : End) (n wires : ℕ) (pairs : List (ℕ × REdgeIx)) → AreKeyed edges end n pairs → EndsBelow end wires edges →
    (k : ℕ) (d : ℕ × REdgeIx) → k < length pairs → (get_or pairs k d).0 < wires
keys_below edges end n wires pairs are below k d within =
    let p = get_or pairs k d in
    let r = are.forth p.0 p.1 (has_at pairs k p (slice_get-get_or pairs k d within)) in
    let low = below r.owned (has_at edges p.1.0 r.owned r.at) in
    subst (λ (m : ℕ). m < wires) r.is low

in_group : (pairs : List (ℕ × REdgeIx)) (key : ℕ) (item : REdgeIx) → Has pairs (key, item) → Has (items_of pairs key) item
in_group pairs key item has =
    has_map (λ (p : ℕ × REdgeIx). p.1) (filter (λ (p : ℕ × REdgeIx). p.0 == key) pairs) (key, item)
    (has_filter (λ (p : ℕ × REdgeIx). p.0 == key) pairs (key, item) has (grind (arith, nat_tests)))

from_group : (pairs : List (ℕ × REdgeIx)) (key : ℕ) (item : REdgeIx) → Has (items_of pairs key) item → Has pairs (key, item)
from_group pairs key item has =
    let found = from_map (λ (p : ℕ × REdgeIx). p.1) (filter (λ (p : ℕ × REdgeIx). p.0 == key) pairs) item has in
    let there = from_filter (λ (p : ℕ × REdgeIx). p.0 == key) pairs found.item found.has in
    let same : found.item.0 ≡ key = grind (arith, nat_tests, there.1) in
    subst (λ (p : ℕ × REdgeIx). Has pairs p) (ap (λ (k : ℕ). keyed k found.item.1) same ∙ ap (λ (i : REdgeIx). keyed key i) (sym found.is)) there.0

pub lists_are : (edges : List OwnedEdge) (end : End) (n wires : ℕ) (pairs : List (ℕ × REdgeIx)) (table : List (List REdgeIx)) → length edges ≤ n → AreKeyed edges end n pairs →
    table ≡ groups_of pairs wires → HasLists edges end wires table
lists_are edges end n wires pairs table all are is = record {
  long = ap (λ (t : List (List REdgeIx)). length t) is ∙ length-map-range_with_len (items_of pairs) 0 wires;
  each = λ wire list at. each wire list at;
}
  where
    group : (wire : WireIx) → AreEdgesAt edges end wire (items_of pairs wire.0)
    group wire = record {
      ascend = ordered_map (λ (e f : REdgeIx). e.0 < f.0) (λ (p : ℕ × REdgeIx). p.1) (filter (λ (p : ℕ × REdgeIx). p.0 == wire.0) pairs)
          (ordered_filter (λ (p q : ℕ × REdgeIx). p.1.0 < q.1.0) (λ (p : ℕ × REdgeIx). p.0 == wire.0) pairs are.ascend);
      each = λ number. (
        λ has. (let r = are.forth wire.0 number (from_group pairs wire.0 number has) in
            record { owned = r.owned; at = r.at; is = wire_same (end_of end r.owned.redge) wire r.is }),
        λ r. in_group pairs wire.0 number (are.back wire.0 number (record {
          owned = r.owned;
          at = r.at;
          low = omega (arith, slice_get_within edges number.0 r.owned r.at, all);
          is = ap (λ (w : WireIx). w.0) r.is;
        })),
      );
    }

    each : (wire : WireIx) (list : List REdgeIx) → slice_get table wire.0 ≡ Some list → AreEdgesAt edges end wire list
    each wire list at =
        let long : length table ≡ wires = ap (λ (t : List (List REdgeIx)). length t) is ∙ length-map-range_with_len (items_of pairs) 0 wires in
        let low : wire.0 < wires = omega (arith, slice_get_within table wire.0 list at, long) in
        let made = ap (λ (t : List (List REdgeIx)). slice_get t wire.0) is ∙ made_at (items_of pairs) wires wire.0 low in
        let both : Some (items_of pairs wire.0) ≡ Some list = sym made ∙ at in
        let same : items_of pairs wire.0 ≡ list = cc in
        subst (λ (l : List REdgeIx). AreEdgesAt edges end wire l) same (group wire)
