-- The part of a pin's edges that has one mode, between two places found by halving.
use Rattle.std.proofs.Common.{◌≡◌, ◌+◌, ◌-◌, ◌<◌, ◌≤◌, ◌⊎◌, ℕ, zero, suc, List, [], ◌∷◌, Some, length, take, drop, slice_get, slice_range, sym, ap, ◌∙◌, subst, inl, inr, arith}
use Rattle.std.proofs.lemmas.Option.{slice_get_within}
use Rattle.vtr_base.specs.Lists.{Has}
use Rattle.pb_expand.specs.declared.number.EdgeIx.{EdgeIx}
use Rattle.pb_expand.specs.declared.number.Edge.{Edge}
use Rattle.pb_expand.specs.Graph.{Graph, into_from}
use Rattle.pb_expand.specs.Ends.{AreEdgesWith}
use Rattle.pb_expand.specs.OneOwner.{HasOneOwner}
use Rattle.pb_expand.specs.Expansion.{StandsBefore, HasEdges}
use Rattle.pb_expand.proofs.Lists.{has_at, at_has, element}
use Rattle.pb_expand.proofs.Ranked.{one_order}
use Rattle.pb_expand.proofs.EdgeLists.{lists_ends}

-- the edges before place `low` are of modes before that one, those from `high` on are not
pub record Halves (edges : List Edge) (group : List EdgeIx) (mode low high : ℕ) : Type 0 where
  pub ordered : low ≤ high
  pub within : high ≤ length group
  pub before : (k : ℕ) (a : EdgeIx) (e : Edge) → k < low → slice_get group k ≡ Some a → slice_get edges a.0 ≡ Some e → e.mode < mode
  pub behind : (k : ℕ) (a : EdgeIx) (e : Edge) → high ≤ k → slice_get group k ≡ Some a → slice_get edges a.0 ≡ Some e → mode ≤ e.mode

-- the modes of a group don't fall
abbrev pub AreOrdered : List Edge → List EdgeIx → Type 0
AreOrdered edges group = (i j : ℕ) (a b : EdgeIx) (e f : Edge) → i < j → slice_get group i ≡ Some a → slice_get group j ≡ Some b →
    slice_get edges a.0 ≡ Some e → slice_get edges b.0 ≡ Some f → e.mode ≤ f.mode

-- the modes of the edges into a pin don't fall
pub modes_ordered : (g : Graph) (pin : ℕ) (group : List EdgeIx) → HasEdges g → HasOneOwner g → AreEdgesWith g (λ e. e.dst.0 ≡ pin) group → AreOrdered g.edges group
modes_ordered g pin group has one lists i j a b e f less at_i at_j is_e is_f =
    by (has.ordered a.0 b.0 e f (lists.ascending i j a b less at_i at_j) is_e is_f)
  where
    dst_of : (k : ℕ) (c : EdgeIx) (x : Edge) → slice_get group k ≡ Some c → slice_get g.edges c.0 ≡ Some x → x.dst.0 ≡ pin
    dst_of k c x at is =
        let found = (lists.exact c.0).0 (has_at group k c at) in
        let read : Some found.0 ≡ Some x = sym found.1 ∙ is in
        let same : found.0 ≡ x = cc in
        ap (λ (y : Edge). y.dst.0) (sym same) ∙ found.2

    owners : e.owner.0 ≡ f.owner.0
    owners =
        let pins : e.dst.0 ≡ f.dst.0 = dst_of i a e at_i is_e ∙ sym (dst_of j b f at_j is_f) in
        ap (λ x. x.0) (one.one e f (has_at g.edges a.0 e is_e) (has_at g.edges b.0 f is_f) (ap pin_of pins))
      where
        pin_of : ℕ → Rattle.pb_expand.specs.declared.number.PinIx.PinIx
        pin_of n = record { 0 = n }

    by : StandsBefore g e f → e.mode ≤ f.mode
    by (inl low) = omega (arith, owners)
    by (inr (same, inl low)) = omega (arith, low)
    by (inr (same, inr (mode, turn))) = omega (arith, mode)

pub all_inside : (g : Graph) (pin : ℕ) (group : List EdgeIx) → AreEdgesWith g (λ e. e.dst.0 ≡ pin) group → (k : ℕ) (a : EdgeIx) → slice_get group k ≡ Some a → a.0 < length g.edges
all_inside g pin group lists k a at = let e = (lists.exact a.0).0 (has_at group k a at) in slice_get_within g.edges a.0 e.0 e.1

-- a mode's edges begin before they end
pub in_order : (g : Graph) (pin mode low high : ℕ) (group : List EdgeIx) → AreEdgesWith g (λ e. e.dst.0 ≡ pin) group → Halves g.edges group mode low low →
    Halves g.edges group (mode + 1) high high → low ≤ high
in_order g pin mode low high group lists first second = by (either low high)
  where
    either : (m n : ℕ) → (m ≤ n) ⊎ (n < m)
    either m n = grind arith

    by : (low ≤ high) ⊎ (high < low) → low ≤ high
    by (inl done) = done
    by (inr less) =
        let a = element group high (omega (arith, less, first.within)) in
        let e = (lists.exact a.0.0).0 (has_at group high a.0 a.1) in
        let below = first.before high a.0 e.0 less a.1 e.1 in
        let above = second.behind high a.0 e.0 (omega arith) a.1 e.1 in
        absurd (omega (arith, below, above))

-- an element of a part of a list
part_get : {X : Type 0} (xs : List X) (a b k : ℕ) (x : X) → slice_get (slice_range xs a b) k ≡ Some x → (slice_get xs (a + k) ≡ Some x) × (a + k < b)
part_get xs a b k x at = (dropped xs a k x (taken (drop a xs) (b - a) k x at).0, let less = (taken (drop a xs) (b - a) k x at).1 in omega arith)
  where
    taken : {Y : Type 0} (ys : List Y) (n i : ℕ) (y : Y) → slice_get (take n ys) i ≡ Some y → (slice_get ys i ≡ Some y) × (i < n)
    taken ys zero i y e = absurd (cc)
    taken [] (suc n) i y e = absurd (cc)
    taken (z ∷ ys) (suc n) zero y e = (e, omega arith)
    taken (z ∷ ys) (suc n) (suc i) y e = let r = taken ys n i y e in (r.0, omega (arith, r.1))

    dropped : {Y : Type 0} (ys : List Y) (n i : ℕ) (y : Y) → slice_get (drop n ys) i ≡ Some y → slice_get ys (n + i) ≡ Some y
    dropped ys zero i y e = let same : 0 + i ≡ i = omega arith in ap (λ m. slice_get ys m) same ∙ e
    dropped [] (suc n) i y e = absurd (cc)
    dropped (z ∷ ys) (suc n) i y e = let same : suc n + i ≡ suc (n + i) = omega arith in ap (λ m. slice_get (z ∷ ys) m) same ∙ dropped ys n i y e

part_has : {X : Type 0} (xs : List X) (a b i : ℕ) (x : X) → slice_get xs i ≡ Some x → a ≤ i → i < b → Has (slice_range xs a b) x
part_has xs a b i x at low high = has_at (slice_range xs a b) (i - a) x (taken (drop a xs) (b - a) (i - a) x (dropped xs a i x at low) (omega arith))
  where
    taken : {Y : Type 0} (ys : List Y) (n i : ℕ) (y : Y) → slice_get ys i ≡ Some y → i < n → slice_get (take n ys) i ≡ Some y
    taken ys zero i y e less = absurd (omega arith)
    taken [] (suc n) i y e less = absurd (cc)
    taken (z ∷ ys) (suc n) zero y e less = e
    taken (z ∷ ys) (suc n) (suc i) y e less = taken ys n i y e (omega (arith, less))

    dropped : {Y : Type 0} (ys : List Y) (n i : ℕ) (y : Y) → slice_get ys i ≡ Some y → n ≤ i → slice_get (drop n ys) (i - n) ≡ Some y
    dropped ys zero i y e less = let same : i - 0 ≡ i = omega arith in ap (λ m. slice_get ys m) same ∙ e
    dropped [] (suc n) i y e less = absurd (cc)
    dropped (z ∷ ys) (suc n) zero y e less = absurd (omega arith)
    dropped (z ∷ ys) (suc n) (suc i) y e less =
        let same : suc i - suc n ≡ i - n = omega arith in ap (λ m. slice_get (drop n ys) m) same ∙ dropped ys n i y e (omega (arith, less))

-- the part of a pin's edges between the two places is what `edges_into` lists
pub part_is : (g : Graph) (pin mode low high : ℕ) (group part : List EdgeIx) → AreEdgesWith g (λ e. e.dst.0 ≡ pin) group → low ≤ high →
    Halves g.edges group mode low low → Halves g.edges group (mode + 1) high high → part ≡ slice_range group low high → part ≡ into_from 0 g.edges pin mode
part_is g pin mode low high group part lists order first second is =
    one_order (λ (a b : EdgeIx). a.0 < b.0) part into (λ a b p q. omega arith) part_up all.ascending part_into into_part
  where
    into : List EdgeIx
    into = into_from 0 g.edges pin mode

    all : AreEdgesWith g (λ e. (e.dst.0 ≡ pin) × (e.mode ≡ mode)) into
    all = lists_ends g pin mode

    at_part : (i : ℕ) (a : EdgeIx) → slice_get part i ≡ Some a → (slice_get group (low + i) ≡ Some a) × (low + i < high)
    at_part i a at = part_get group low high i a (subst (λ l. slice_get l i ≡ Some a) is at)

    part_up : (i j : ℕ) (a b : EdgeIx) → i < j → slice_get part i ≡ Some a → slice_get part j ≡ Some b → a.0 < b.0
    part_up i j a b less at_i at_j = lists.ascending (low + i) (low + j) a b (omega (arith, less)) (at_part i a at_i).0 (at_part j b at_j).0

    part_into : (a : EdgeIx) → Has part a → Has into a
    part_into a has =
        let i = at_has part a has in
        let at = at_part i.0 a i.1 in
        let e = (lists.exact a.0).0 (has_at group (low + i.0) a at.0) in
        let not_less = first.behind (low + i.0) a e.0 (omega arith) at.0 e.1 in
        let not_more = second.before (low + i.0) a e.0 at.1 at.0 e.1 in
        (all.exact a.0).1 (e.0, e.1, (e.2, omega (arith, not_less, not_more)))

    into_part : (a : EdgeIx) → Has into a → Has part a
    into_part a has =
        let e = (all.exact a.0).0 has in
        let i = at_has group a ((lists.exact a.0).1 (e.0, e.1, e.2.0)) in
        let at = i.1 in
        let from : low ≤ i.0 = elim (either low i.0) [ inl done ↦ done | inr less ↦ absurd (not_low e.0.mode (first.before i.0 a e.0 less at e.1) e.2.1) ] in
        let below : i.0 < high = elim (either high i.0) [ inl past ↦ absurd (not_past e.0.mode (second.behind i.0 a e.0 past at e.1) e.2.1) | inr less ↦ less ] in
        subst (λ l. Has l a) (sym is) (part_has group low high i.0 a at from below)
      where
        either : (m n : ℕ) → (m ≤ n) ⊎ (n < m)
        either m n = grind arith

        not_low : (n : ℕ) → n < mode → n ≡ mode → ⊥
        not_low n less same = omega arith

        not_past : (n : ℕ) → mode + 1 ≤ n → n ≡ mode → ⊥
        not_past n more same = omega arith
