-- One more edge, and the pairs of wires that are owned.
use Rattle.std.proofs.Common.{◌≡◌, ◌<◌, ◌≤◌, ◌+◌, ◌⊎◌, ℕ, Bool, true, false, not, List, [], ◌∷◌, ◌++◌, if◌then◌else◌, Some, length, slice_get, take, get_or, refl, sym, ap, ◌∙◌, subst, inl, inr, arith}
use Rattle.std.specs.List.{list_any}
use Rattle.std.proofs.lemmas.Bool.{false≢true}
use Rattle.std.proofs.lemmas.List.{length-take, take_more, take_all, length_push}
use Rattle.std.proofs.lemmas.Option.{slice_get_within}
use Rattle.indexmap.specs.IndexSet.{insert_key}
use Rattle.vtr_base.specs.Lists.{Has}
use Rattle.list_laws.proofs.Members.{has_left, has_last, has_at, at_has, has_pushed}
use Rattle.list_laws.proofs.Places.{get_front, get_after, get_either}
use Rattle.rr_wires.specs.declared.types.NodeEdge.{NodeEdge}
use Rattle.rr_wires.specs.declared.types.OwnedEdge.{OwnedEdge}
use Rattle.rr_wires.specs.declared.types.REdge.{REdge}
use Rattle.rr_wires.specs.declared.types.WireIx.{WireIx}
use Rattle.rr_wires.specs.declared.types.WirePair.{WirePair}
use Rattle.rr_wires.specs.Wires.{Joins, IsOwner, AreOwned}
use Rattle.rr_wires.specs.Steps.{HaveOneWire, pair_of, AddsOwned}
use Rattle.rr_wires.proofs.Keys.{pair_eq, pair_same, pair_itself, any_has, none_has, wire_pair}
use Rattle.rr_wires.proofs.Orders.{ordered_pushed}

-- a pair that the set had, or hadn't
pub pair_had : (pairs new : List WirePair) (p : WirePair) (fresh : Bool) → fresh ≡ not (list_any (pair_eq p) pairs) → new ≡ insert_key pair_eq pairs p → fresh ≡ false →
    Has pairs p × (new ≡ pairs)
pair_had pairs new p fresh is grown old = by (list_any (pair_eq p) pairs) refl
  where
    by : (b : Bool) → list_any (pair_eq p) pairs ≡ b → Has pairs p × (new ≡ pairs)
    by true any = (any_has pair_eq pair_same pair_itself pairs p any, grown ∙ ap (λ (t : Bool). if t then pairs else pairs ++ p ∷ []) any)
    by false none = absurd (false≢true (sym old ∙ (is ∙ ap not none)))

pub pair_fresh : (pairs new : List WirePair) (p : WirePair) (fresh : Bool) → fresh ≡ not (list_any (pair_eq p) pairs) → new ≡ insert_key pair_eq pairs p → fresh ≡ true →
    (Has pairs p → ⊥) × (new ≡ pairs ++ p ∷ [])
pair_fresh pairs new p fresh is grown first = by (list_any (pair_eq p) pairs) refl
  where
    by : (b : Bool) → list_any (pair_eq p) pairs ≡ b → (Has pairs p → ⊥) × (new ≡ pairs ++ p ∷ [])
    by true any = absurd (false≢true (sym (ap not any) ∙ (sym is ∙ first)))
    by false none = (none_has pair_eq pair_same pair_itself pairs p none, grown ∙ ap (λ (t : Bool). if t then pairs else pairs ++ p ∷ []) none)

abbrev redge : WireIx → WireIx → ℕ → ℕ → ℕ → REdge
redge src dst src_node dst_node switch = record { src = src; dst = dst; src_node = src_node; dst_node = dst_node; switch = switch }

abbrev owned_edge : REdge → ℕ → OwnedEdge
owned_edge e place = record { redge = e; place = place }

redge_same : (a b : REdge) → a.src ≡ b.src → a.dst ≡ b.dst → a.src_node ≡ b.src_node → a.dst_node ≡ b.dst_node → a.switch ≡ b.switch → a ≡ b
redge_same a b src dst src_node dst_node switch =
    ap (λ (w : WireIx). redge w a.dst a.src_node a.dst_node a.switch) src
    ∙ (ap (λ (w : WireIx). redge b.src w a.src_node a.dst_node a.switch) dst
    ∙ (ap (λ (n : ℕ). redge b.src b.dst n a.dst_node a.switch) src_node
    ∙ (ap (λ (n : ℕ). redge b.src b.dst b.src_node n a.switch) dst_node ∙ ap (λ (n : ℕ). redge b.src b.dst b.src_node b.dst_node n) switch)))

-- the edge is one of those that join the pair
pub record IsJoinedBy (nodes : List (ℕ × WireIx)) (edges : List NodeEdge) (pair : WirePair) : Type 0 where
  pub edge : NodeEdge
  pub there : Has edges edge
  pub joined : REdge
  pub joins : Joins nodes edge joined
  pub is : pair_of joined ≡ pair

module _ (nodes : List (ℕ × WireIx)) (one : HaveOneWire nodes) where
  pub one_joined : (edge : NodeEdge) (a b : REdge) → Joins nodes edge a → Joins nodes edge b → a ≡ b
  one_joined edge a b by_a by_b =
      redge_same a b (one edge.src a.src b.src by_a.src by_b.src) (one edge.dst a.dst b.dst by_a.dst by_b.dst)
      (by_a.src_node ∙ sym by_b.src_node) (by_a.dst_node ∙ sym by_b.dst_node) (by_a.switch ∙ sym by_b.switch)

  module _ (done : List NodeEdge) (edge : NodeEdge) (joined : REdge) (joins : Joins nodes edge joined) where
    abbrev longer : List NodeEdge
    longer = done ++ edge ∷ []

    abbrev newest : OwnedEdge
    newest = record { redge = joined; place = length done }

    -- what stands in the longer list
    either : (k : ℕ) (e : NodeEdge) → slice_get longer k ≡ Some e → (slice_get done k ≡ Some e) ⊎ ((k ≡ length done) × (e ≡ edge))
    either k e at = by (get_either done (edge ∷ []) k e at)
      where
        by : (slice_get done k ≡ Some e) ⊎ ((j : ℕ) × (k ≡ length done + j) × (slice_get (edge ∷ []) j ≡ Some e)) → (slice_get done k ≡ Some e) ⊎ ((k ≡ length done) × (e ≡ edge))
        by (inl front) = inl front
        by (inr last) =
            let within : last.0 < 1 = slice_get_within (edge ∷ []) last.0 e last.2 in
            inr (omega (arith, within, last.1), only (has_at (edge ∷ []) last.0 e last.2))
          where
            only : Has (edge ∷ []) e → e ≡ edge
            only (inl is) = is
            only (inr none) = absurd none

    owner_stays : (o : OwnedEdge) → IsOwner nodes done o → IsOwner nodes longer o
    owner_stays o own = record {
      edge = own.edge;
      at = get_front done (edge ∷ []) o.place own.edge own.at;
      joins = own.joins;
      first = λ place other j low at. by place other j low (either place other at);
    }
      where
        by : (place : ℕ) (other : NodeEdge) (j : REdge) → place < o.place → (slice_get done place ≡ Some other) ⊎ ((place ≡ length done) × (other ≡ edge)) →
            Joins nodes other j → j.src ≡ o.redge.src → j.dst ≡ o.redge.dst → ⊥
        by place other j low (inl front) other_joins src dst = own.first place other j low front other_joins src dst
        by place other j low (inr last) other_joins src dst = absurd (omega (arith, low, last.0, slice_get_within done o.place own.edge own.at))

    owner_before : (o : OwnedEdge) (own : IsOwner nodes longer o) → slice_get done o.place ≡ Some own.edge → IsOwner nodes done o
    owner_before o own at = record {
      edge = own.edge;
      at = at;
      joins = own.joins;
      first = λ place other j low there. own.first place other j low (get_front done (edge ∷ []) place other there);
    }

    -- the last edge owns a pair only where no edge before joins it
    newest_is : (o : OwnedEdge) (own : IsOwner nodes longer o) → (o.place ≡ length done) × (own.edge ≡ edge) → o ≡ newest
    newest_is o own last =
        let mine = subst (λ (e : NodeEdge). Joins nodes e o.redge) last.1 own.joins in
        ap (λ (e : REdge). owned_edge e o.place) (one_joined edge o.redge joined mine joins) ∙ ap (λ (n : ℕ). owned_edge joined n) last.0

    keeps_owned : (owned : List OwnedEdge) → AreOwned nodes done owned → IsJoinedBy nodes done (pair_of joined) → AreOwned nodes longer owned
    keeps_owned owned are before = record {
      ascend = are.ascend;
      each = λ o. (λ has. owner_stays o ((are.each o).0 has), λ own. by o own (either o.place own.edge own.at));
    }
      where
        by : (o : OwnedEdge) (own : IsOwner nodes longer o) → (slice_get done o.place ≡ Some own.edge) ⊎ ((o.place ≡ length done) × (own.edge ≡ edge)) → Has owned o
        by o own (inl front) = (are.each o).1 (owner_before o own front)
        by o own (inr last) =
            let at = at_has done before.edge before.there in
            let is = newest_is o own last in
            let low : at.0 < o.place = omega (arith, slice_get_within done at.0 before.edge at.1, last.0) in
            absurd (own.first at.0 before.edge before.joined low (get_front done (edge ∷ []) at.0 before.edge at.1) before.joins
            (ap (λ (p : WirePair). p.src) before.is ∙ ap (λ (e : OwnedEdge). e.redge.src) (sym is))
            (ap (λ (p : WirePair). p.dst) before.is ∙ ap (λ (e : OwnedEdge). e.redge.dst) (sym is)))

    more_owned : (owned : List OwnedEdge) → AreOwned nodes done owned → (IsJoinedBy nodes done (pair_of joined) → ⊥) → AreOwned nodes longer (owned ++ newest ∷ [])
    more_owned owned are fresh = record {
      ascend = ordered_pushed (λ (o p : OwnedEdge). o.place < p.place) owned newest are.ascend (λ o has.
          slice_get_within done o.place ((are.each o).0 has).edge ((are.each o).0 has).at);
      each = λ o. (λ has. forth o (has_pushed owned newest o has), λ own. back o own (either o.place own.edge own.at));
    }
      where
        none_before : (place : ℕ) (other : NodeEdge) (j : REdge) → place < length done → (slice_get done place ≡ Some other) ⊎ ((place ≡ length done) × (other ≡ edge)) →
            Joins nodes other j → j.src ≡ joined.src → j.dst ≡ joined.dst → ⊥
        none_before place other j low (inl front) other_joins src dst = fresh (record {
          edge = other;
          there = has_at done place other front;
          joined = j;
          joins = other_joins;
          is = ap (λ (w : WireIx). wire_pair w j.dst) src ∙ ap (λ (w : WireIx). wire_pair joined.src w) dst;
        })
        none_before place other j low (inr last) other_joins src dst = absurd (omega (arith, low, last.0))

        newest_owns : IsOwner nodes longer newest
        newest_owns = record {
          edge = edge;
          at = get_after done [] edge (length done) refl;
          joins = joins;
          first = λ place other j low at. none_before place other j low (either place other at);
        }

        forth : (o : OwnedEdge) → Has owned o ⊎ (o ≡ newest) → IsOwner nodes longer o
        forth o (inl front) = owner_stays o ((are.each o).0 front)
        forth o (inr is) = subst (λ (p : OwnedEdge). IsOwner nodes longer p) (sym is) newest_owns

        back : (o : OwnedEdge) (own : IsOwner nodes longer o) → (slice_get done o.place ≡ Some own.edge) ⊎ ((o.place ≡ length done) × (own.edge ≡ edge)) → Has (owned ++ newest ∷ []) o
        back o own (inl front) = has_left owned (newest ∷ []) o ((are.each o).1 (owner_before o own front))
        back o own (inr last) = subst (λ (p : OwnedEdge). Has (owned ++ newest ∷ []) p) (sym (newest_is o own last)) (has_last owned newest)

-- the edges so far, with the pairs that they join and those that are owned
pub record AreOwnedSoFar (nodes : List (ℕ × WireIx)) (done : List NodeEdge) (pairs : List WirePair) (owned : List OwnedEdge) : Type 0 where
  pub owned_are : AreOwned nodes done owned
  pub known : (p : WirePair) → Has pairs p → IsJoinedBy nodes done p
  pub all : (p : WirePair) → IsJoinedBy nodes done p → Has pairs p
  pub few : length owned ≤ length done

pub none_owned : (nodes : List (ℕ × WireIx)) (pairs : List WirePair) → pairs ≡ [] → AreOwnedSoFar nodes [] pairs []
none_owned nodes pairs is = record {
  owned_are = record { ascend = tt; each = λ o. (λ has. absurd has, λ own. absurd (has_at [] o.place own.edge own.at)) };
  known = λ p has. absurd (subst (λ (l : List WirePair). Has l p) is has);
  all = λ p by. absurd by.there;
  few = omega arith;
}

module _ (nodes : List (ℕ × WireIx)) (one : HaveOneWire nodes) (done : List NodeEdge) (edge : NodeEdge) (joined : REdge) (joins : Joins nodes edge joined) where
  joined_stays : (p : WirePair) → IsJoinedBy nodes done p → IsJoinedBy nodes (done ++ edge ∷ []) p
  joined_stays p by = record { edge = by.edge; there = has_left done (edge ∷ []) by.edge by.there; joined = by.joined; joins = by.joins; is = by.is }

  joined_last : IsJoinedBy nodes (done ++ edge ∷ []) (pair_of joined)
  joined_last = record { edge = edge; there = has_last done edge; joined = joined; joins = joins; is = refl }

  joined_cases : (p : WirePair) → IsJoinedBy nodes (done ++ edge ∷ []) p → IsJoinedBy nodes done p ⊎ (p ≡ pair_of joined)
  joined_cases p r = by (has_pushed done edge r.edge r.there)
    where
      by : Has done r.edge ⊎ (r.edge ≡ edge) → IsJoinedBy nodes done p ⊎ (p ≡ pair_of joined)
      by (inl front) = inl (record { edge = r.edge; there = front; joined = r.joined; joins = r.joins; is = r.is })
      by (inr last) = inr (sym r.is ∙ ap pair_of (one_joined nodes one edge r.joined joined (subst (λ (e : NodeEdge). Joins nodes e r.joined) last r.joins) joins))

  pub one_more_edge : (pairs new : List WirePair) (owned more : List OwnedEdge) → AreOwnedSoFar nodes done pairs owned →
      AddsOwned pairs owned (record { redge = joined; place = length done }) new more → AreOwnedSoFar nodes (done ++ edge ∷ []) new more
  one_more_edge pairs new owned more are (inl old) = record {
    owned_are = subst (λ (l : List OwnedEdge). AreOwned nodes (done ++ edge ∷ []) l) (sym old.2) (keeps_owned nodes one done edge joined joins owned are.owned_are (are.known (pair_of joined) old.0));
    known = λ p has. joined_stays p (are.known p (subst (λ (l : List WirePair). Has l p) old.1 has));
    all = λ p r. subst (λ (l : List WirePair). Has l p) (sym old.1) (by p (joined_cases p r));
    few = omega (arith, ap (λ (l : List OwnedEdge). length l) old.2, are.few, length_push done edge);
  }
    where
      by : (p : WirePair) → IsJoinedBy nodes done p ⊎ (p ≡ pair_of joined) → Has pairs p
      by p (inl before) = are.all p before
      by p (inr is) = subst (λ (q : WirePair). Has pairs q) (sym is) old.0
  one_more_edge pairs new owned more are (inr fresh) = record {
    owned_are = subst (λ (l : List OwnedEdge). AreOwned nodes (done ++ edge ∷ []) l) (sym fresh.2)
        (more_owned nodes one done edge joined joins owned are.owned_are (λ r. fresh.0 (are.all (pair_of joined) r)));
    known = λ p has. back p (has_pushed pairs (pair_of joined) p (subst (λ (l : List WirePair). Has l p) fresh.1 has));
    all = λ p r. subst (λ (l : List WirePair). Has l p) (sym fresh.1) (by p (joined_cases p r));
    few = omega (arith, ap (λ (l : List OwnedEdge). length l) fresh.2, are.few, length_push done edge, length_push owned (record { redge = joined; place = length done }));
  }
    where
      back : (p : WirePair) → Has pairs p ⊎ (p ≡ pair_of joined) → IsJoinedBy nodes (done ++ edge ∷ []) p
      back p (inl front) = joined_stays p (are.known p front)
      back p (inr is) = subst (λ (q : WirePair). IsJoinedBy nodes (done ++ edge ∷ []) q) (sym is) joined_last

      by : (p : WirePair) → IsJoinedBy nodes done p ⊎ (p ≡ pair_of joined) → Has (pairs ++ pair_of joined ∷ []) p
      by p (inl before) = has_left pairs (pair_of joined ∷ []) p (are.all p before)
      by p (inr is) = subst (λ (q : WirePair). Has (pairs ++ pair_of joined ∷ []) q) (sym is) (has_last pairs (pair_of joined))

-- the same by places of the whole list
pub edge_step : (nodes : List (ℕ × WireIx)) → HaveOneWire nodes → (edges : List NodeEdge) (i : ℕ) (d : NodeEdge) → i < length edges →
    (joined : REdge) → Joins nodes (get_or edges i d) joined → (pairs new : List WirePair) (owned more : List OwnedEdge) → AreOwnedSoFar nodes (take i edges) pairs owned →
    AddsOwned pairs owned (record { redge = joined; place = i }) new more → AreOwnedSoFar nodes (take (i + 1) edges) new more
edge_step nodes one edges i d within joined joins pairs new owned more are added =
    let place : i ≡ length (take i edges) = omega (arith, length-take i edges) in
    let adds = subst (λ (n : ℕ). AddsOwned pairs owned (owned_edge joined n) new more) place added in
    subst (λ (l : List NodeEdge). AreOwnedSoFar nodes l new more) (sym (take_more edges i d within))
    (one_more_edge nodes one (take i edges) (get_or edges i d) joined joins pairs new owned more are adds)

pub all_owned : (nodes : List (ℕ × WireIx)) (edges : List NodeEdge) (i : ℕ) (pairs : List WirePair) (owned : List OwnedEdge) → length edges ≤ i →
    AreOwnedSoFar nodes (take i edges) pairs owned → AreOwnedSoFar nodes edges pairs owned
all_owned nodes edges i pairs owned end are = subst (λ (l : List NodeEdge). AreOwnedSoFar nodes l pairs owned) (take_all i edges end) are
