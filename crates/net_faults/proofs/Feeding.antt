-- The edges between LUTs, connection by connection and atom by atom.
use Rattle.std.proofs.Common.{◌≡◌, ◌≤◌, ◌<◌, ◌+◌, ◌⊎◌, ℕ, List, [], ◌∷◌, ◌++◌, Option, Some, None, length, slice_get, slice_index_or, take, sym, ap, ◌∙◌, subst, inl, inr, arith, length-append}
use Rattle.std.proofs.lemmas.Bool.{cases_eq}
use Rattle.std.proofs.lemmas.List.{take_all}
use Rattle.std.proofs.lemmas.List.Sums.{sum_by_more}
use Rattle.std.proofs.lemmas.Option.{slice_get_within, slice_get-get_or, get_or_from_slice_get}
use Rattle.vtr_base.specs.Lists.{Has}
use Rattle.list_laws.proofs.Members.{has_left, has_last, has_pushed}
use Rattle.arch_types.specs.declared.block.AtomKind.TheVariants.{Lut}
use Rattle.net_types.specs.declared.atom.Atom.{Atom}
use Rattle.net_types.specs.declared.atom.Conn.{Conn}
use Rattle.net_types.specs.Ends.{IsDriver, HasOneMaker}
use Rattle.net_types.specs.WellFormed.{Feeds, count_conns}
use Rattle.least_cycle.specs.Cycles.{IsEdge}
use Rattle.net_faults.specs.Loops.{AreFeeds}
use Rattle.net_faults.specs.Steps.{AreMakers, IsMakerOf, IsLutOf, FeedsOne, AddsFeeds}

-- a net has one driver
pub one_driver : (atoms : List Atom) (net a b : ℕ) → HasOneMaker atoms net → IsDriver atoms net a → IsDriver atoms net b → a ≡ b
one_driver atoms net a b one p q = (one.only a p.0 p.1).0 ∙ sym (one.only b q.0 q.1).0

-- a driver is an atom
pub driver_low : (atoms : List Atom) (net number : ℕ) → IsDriver atoms net number → number < length atoms
driver_low atoms net number drives = slice_get_within atoms number drives.1.atom drives.1.there

-- what is put down for a net
pub maker_read : (atoms : List Atom) (makers : List (Option ℕ)) (net : ℕ) (maker : Option ℕ) → AreMakers atoms (length makers) makers → net < length makers →
    slice_index_or makers net None ≡ maker → IsMakerOf atoms net maker
maker_read atoms makers net maker are low is =
    subst (λ (m : Option ℕ). IsMakerOf atoms net m) is (are.each net (slice_index_or makers net None) (slice_get-get_or makers net None low))

-- the driver of a net isn't a LUT, so no LUT makes it
pub other_kind : (atoms : List Atom) (net maker : ℕ) (atom : Atom) → HasOneMaker atoms net → IsDriver atoms net maker → slice_get atoms maker ≡ Some atom →
    (atom.kind ≡ Lut → ⊥) → (number : ℕ) → IsLutOf atoms net number → ⊥
other_kind atoms net maker atom one drives there other number lut =
    let same = one_driver atoms net number maker one lut.drives drives in
    let at = ap (λ (k : ℕ). slice_get atoms k) (sym same) ∙ lut.there in
    let is : lut.atom ≡ atom = cc in
    other (ap (λ (a : Atom). a.kind) (sym is) ∙ lut.is_lut)

-- no connection, and one more

pub adds_none : (atoms : List Atom) (taker : ℕ) (old : List (ℕ × ℕ)) → AddsFeeds atoms taker [] old old
adds_none atoms taker old = record {
  kept = λ maker to edge. edge;
  added = λ maker feeds. absurd feeds.1;
  only = λ maker to edge. inl edge;
  few = omega arith;
}

module _ (atoms : List Atom) (taker : ℕ) (conns : List Conn) (conn : Conn) (old mid : List (ℕ × ℕ)) (adds : AddsFeeds atoms taker conns old mid) where
  longer : (maker : ℕ) → FeedsOne atoms conns maker → FeedsOne atoms (conns ++ conn ∷ []) maker
  longer maker feeds = (feeds.0, has_left conns (conn ∷ []) feeds.0 feeds.1, feeds.2)

  split : (maker : ℕ) → FeedsOne atoms (conns ++ conn ∷ []) maker → FeedsOne atoms conns maker ⊎ IsLutOf atoms conn.net maker
  split maker feeds = by (has_pushed conns conn feeds.0 feeds.1)
    where
      by : Has conns feeds.0 ⊎ (feeds.0 ≡ conn) → FeedsOne atoms conns maker ⊎ IsLutOf atoms conn.net maker
      by (inl has) = inl (feeds.0, has, feeds.2)
      by (inr is) = inr (subst (λ (c : Conn). IsLutOf atoms c.net maker) is feeds.2)

  was : (maker to : ℕ) → IsEdge mid maker to → IsEdge old maker to ⊎ ((to ≡ taker) × FeedsOne atoms (conns ++ conn ∷ []) maker)
  was maker to edge = by (adds.only maker to edge)
    where
      by : IsEdge old maker to ⊎ ((to ≡ taker) × FeedsOne atoms conns maker) → IsEdge old maker to ⊎ ((to ≡ taker) × FeedsOne atoms (conns ++ conn ∷ []) maker)
      by (inl before) = inl before
      by (inr one) = inr (one.0, longer maker one.1)

  pub adds_other : ((maker : ℕ) → IsLutOf atoms conn.net maker → ⊥) → AddsFeeds atoms taker (conns ++ conn ∷ []) old mid
  adds_other none = record {
    kept = adds.kept;
    added = λ maker feeds. elim (split maker feeds) [ inl before ↦ adds.added maker before | inr lut ↦ absurd (none maker lut) ];
    only = was;
    few = omega (arith, adds.few, length-append conns (conn ∷ []));
  }

  pub adds_lut : (lut : ℕ) → HasOneMaker atoms conn.net → IsLutOf atoms conn.net lut → AddsFeeds atoms taker (conns ++ conn ∷ []) old (mid ++ (lut, taker) ∷ [])
  adds_lut lut one is_lut = record {
    kept = λ maker to edge. has_left mid ((lut, taker) ∷ []) (maker, to) (adds.kept maker to edge);
    added = λ maker feeds. added maker (split maker feeds);
    only = λ maker to edge. only maker to (has_pushed mid (lut, taker) (maker, to) edge);
    few = omega (arith, adds.few, length-append conns (conn ∷ []), length-append mid ((lut, taker) ∷ []));
  }
    where
      added : (maker : ℕ) → FeedsOne atoms conns maker ⊎ IsLutOf atoms conn.net maker → IsEdge (mid ++ (lut, taker) ∷ []) maker taker
      added maker (inl before) = has_left mid ((lut, taker) ∷ []) (maker, taker) (adds.added maker before)
      added maker (inr here) =
          let same = one_driver atoms conn.net lut maker one is_lut.drives here.drives in
          subst (λ (k : ℕ). IsEdge (mid ++ (lut, taker) ∷ []) k taker) same (has_last mid (lut, taker))

      only : (maker to : ℕ) → Has {X = ℕ × ℕ} mid (maker, to) ⊎ ◌≡◌ {A = ℕ × ℕ} (maker, to) (lut, taker) →
          IsEdge old maker to ⊎ ((to ≡ taker) × FeedsOne atoms (conns ++ conn ∷ []) maker)
      only maker to (inl edge) = was maker to edge
      only maker to (inr is) =
          let same : lut ≡ maker = ap (λ (p : ℕ × ℕ). p.0) (sym is) in
          inr (ap (λ (p : ℕ × ℕ). p.1) is, (conn, has_last conns conn, subst (λ (k : ℕ). IsLutOf atoms conn.net k) same is_lut))

-- the edges to the first atoms
pub record FeedsBelow (atoms : List Atom) (n : ℕ) (edges : List (ℕ × ℕ)) : Type 0 where
  pub each : (maker taker : ℕ) → IsEdge edges maker taker → Feeds atoms maker taker
  pub all : (maker taker : ℕ) → taker < n → Feeds atoms maker taker → IsEdge edges maker taker
  pub few : length edges ≤ count_conns (take n atoms)

pub feeds_begin : (atoms : List Atom) → FeedsBelow atoms 0 []
feeds_begin atoms = record { each = λ m t edge. absurd edge; all = λ m t low feeds. absurd (omega (arith, low)); few = omega arith }

counted : (atoms : List Atom) (n : ℕ) (atom : Atom) → slice_get atoms n ≡ Some atom →
    count_conns (take (n + 1) atoms) ≡ count_conns (take n atoms) + (length atom.ins + length atom.outs)
counted atoms n atom there =
    sum_by_more (λ (a : Atom). length a.ins + length a.outs) atoms n atom (slice_get_within atoms n atom there) ∙
    ap (λ (a : Atom). count_conns (take n atoms) + (length a.ins + length a.outs)) (get_or_from_slice_get atoms n atom atom there)

module _ (atoms : List Atom) (n : ℕ) (atom : Atom) (there : slice_get atoms n ≡ Some atom) (old : List (ℕ × ℕ)) (below : FeedsBelow atoms n old) where
  same_atom : (a : Atom) (k : ℕ) → k ≡ n → slice_get atoms k ≡ Some a → a ≡ atom
  same_atom a k is at = let moved = ap (λ (j : ℕ). slice_get atoms j) (sym is) ∙ at in cc

  pub feeds_other : (atom.kind ≡ Lut → ⊥) → FeedsBelow atoms (n + 1) old
  feeds_other other = record {
    each = below.each;
    all = λ maker taker low feeds. all maker taker low feeds (cases_eq taker n);
    few = omega (arith, below.few, counted atoms n atom there);
  }
    where
      all : (maker taker : ℕ) → taker < n + 1 → Feeds atoms maker taker → (taker ≡ n) ⊎ (taker ≡ n → ⊥) → IsEdge old maker taker
      all maker taker low feeds (inl is) =
          absurd (other (ap (λ (a : Atom). a.kind) (sym (same_atom feeds.atom taker is feeds.there)) ∙ feeds.takes))
      all maker taker low feeds (inr before) = below.all maker taker (omega (arith, low, before)) feeds

  pub feeds_lut : atom.kind ≡ Lut → (new : List (ℕ × ℕ)) → AddsFeeds atoms n atom.ins old new → FeedsBelow atoms (n + 1) new
  feeds_lut is_lut new adds = record {
    each = λ maker taker edge. each maker taker (adds.only maker taker edge);
    all = λ maker taker low feeds. all maker taker low feeds (cases_eq taker n);
    few = omega (arith, below.few, adds.few, counted atoms n atom there);
  }
    where
      feeds_it : (maker : ℕ) → FeedsOne atoms atom.ins maker → Feeds atoms maker n
      feeds_it maker one = record {
        atom = atom;
        there = there;
        takes = is_lut;
        conn = one.0;
        has = one.1;
        other = one.2.atom;
        other_there = one.2.there;
        makes = one.2.is_lut;
        drives = one.2.drives;
      }

      each : (maker taker : ℕ) → IsEdge old maker taker ⊎ ((taker ≡ n) × FeedsOne atoms atom.ins maker) → Feeds atoms maker taker
      each maker taker (inl edge) = below.each maker taker edge
      each maker taker (inr one) = subst (λ (k : ℕ). Feeds atoms maker k) (sym one.0) (feeds_it maker one.1)

      all : (maker taker : ℕ) → taker < n + 1 → Feeds atoms maker taker → (taker ≡ n) ⊎ (taker ≡ n → ⊥) → IsEdge new maker taker
      all maker taker low feeds (inl is) =
          let has = subst (λ (a : Atom). Has a.ins feeds.conn) (same_atom feeds.atom taker is feeds.there) feeds.has in
          let lut : IsLutOf atoms feeds.conn.net maker = record { drives = feeds.drives; atom = feeds.other; there = feeds.other_there; is_lut = feeds.makes } in
          subst (λ (k : ℕ). IsEdge new maker k) (sym is) (adds.added maker (feeds.conn, has, lut))
      all maker taker low feeds (inr before) = adds.kept maker taker (below.all maker taker (omega (arith, low, before)) feeds)

pub feeds_end : (atoms : List Atom) (n : ℕ) (edges : List (ℕ × ℕ)) → n ≡ length atoms → FeedsBelow atoms n edges → AreFeeds atoms edges
feeds_end atoms n edges whole below maker taker =
    (below.each maker taker, λ feeds. below.all maker taker (omega (arith, whole, slice_get_within atoms taker feeds.atom feeds.there)) feeds)

pub few_edges : (atoms : List Atom) (n : ℕ) (edges : List (ℕ × ℕ)) → n ≡ length atoms → FeedsBelow atoms n edges → length edges ≤ count_conns atoms
few_edges atoms n edges whole below =
    omega (arith, below.few, ap count_conns (take_all n atoms (omega (arith, whole))))
