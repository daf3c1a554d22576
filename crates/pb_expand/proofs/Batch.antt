-- The edges of one more mode of an instance.
use Rattle.std.proofs.Common.{◌≡◌, ◌+◌, ◌<◌, ◌≤◌, ◌⊎◌, ℕ, List, [], ◌∷◌, ◌++◌, Option, Some, None, length, slice_get, refl, sym, ap, ◌∙◌, subst, inl, inr, arith, length-append, eq-or-lt_of_le}
use Rattle.std.proofs.lemmas.Option.{slice_get_within}
use Rattle.vtr_base.specs.Lists.{Has}
use Rattle.arch_types.specs.declared.block.PbType.{PbType}
use Rattle.arch_types.specs.declared.block.Mode.{Mode}
use Rattle.arch_types.specs.Tree.{modes_of}
use Rattle.arch_types.specs.Address.{Address, Hop}
use Rattle.arch_types.proofs.Once.{has_left, has_right, has_either}
use Rattle.mode_edges.specs.declared.pin.LocalPin.{LocalPin}
use Rattle.mode_edges.specs.declared.pin.LocalEdge.{LocalEdge}
use Rattle.mode_edges.specs.declared.pin.ChildAt.{ChildAt}
use Rattle.mode_edges.specs.Edges.{IsEdge, AreEdges}
use Rattle.pb_expand.specs.declared.number.Edge.{Edge}
use Rattle.pb_expand.specs.declared.number.PinAt.{PinAt}
use Rattle.pb_expand.specs.Graph.{pin_at}
use Rattle.pb_expand.specs.Expansion.{owner_address}
use Rattle.pb_expand.specs.Making.{AreOnce, Stands, edge_at, IsPlaced, AddsPlaced, IsMade, IsBefore, StandInTurn, Precedes, AreBefore}
use Rattle.pb_expand.proofs.Lists.{get_either, element, has_at, at_has, snoc_last}

abbrev child_of : ℕ → ℕ → ChildAt
child_of child instance = record { child = child; instance = instance }

abbrev local_of : Option ChildAt → ℕ → ℕ → LocalPin
local_of owner port bit = record { owner = owner; port = port; bit = bit }

not_longer : (a : Address) (h : Hop) → a ≡ a ++ h ∷ [] → ⊥
not_longer a h e = too_long (ap length e ∙ length-append a (h ∷ []))
  where
    too_long : length a ≡ length a + 1 → ⊥
    too_long f = omega arith

-- an instance is below another by one step of a mode alone
one_owner : (a : Address) (mode : ℕ) (c d : Option ChildAt) → owner_address a mode c ≡ owner_address a mode d → c ≡ d
one_owner a mode None None e = refl
one_owner a mode None (Some d) e = absurd (not_longer a (record { mode = mode; child = d.child; instance = d.instance }) e)
one_owner a mode (Some c) None e = absurd (not_longer a (record { mode = mode; child = c.child; instance = c.instance }) (sym e))
one_owner a mode (Some c) (Some d) e =
    let hops = snoc_last a a (record { mode = mode; child = c.child; instance = c.instance }) (record { mode = mode; child = d.child; instance = d.instance }) e in
    let children : c.child ≡ d.child = ap (λ (h : Hop). h.child) hops in
    let numbers : c.instance ≡ d.instance = ap (λ (h : Hop). h.instance) hops in
    let same : child_of c.child c.instance ≡ child_of d.child d.instance = cc in
    ap Some same

-- a number has one local pin
pub one_local : (instances : List Address) (pins : List PinAt) (n : ℕ) (a : Address) (mode : ℕ) (p q : LocalPin) →
    Stands instances pins n a mode p → Stands instances pins n a mode q → p ≡ q
one_local instances pins n a mode p q s t =
    let read : Some (pin_at s.pb p.port p.bit) ≡ Some (pin_at t.pb q.port q.bit) = sym s.is_pin ∙ t.is_pin in
    let same : pin_at s.pb p.port p.bit ≡ pin_at t.pb q.port q.bit = cc in
    let pbs : s.pb ≡ t.pb = ap (λ (x : PinAt). x.pb.0) same in
    let ports : p.port ≡ q.port = ap (λ (x : PinAt). x.port) same in
    let bits : p.bit ≡ q.bit = ap (λ (x : PinAt). x.bit) same in
    let found : Some (owner_address a mode p.owner) ≡ Some (owner_address a mode q.owner) = sym s.is_instance ∙ ap (λ k. slice_get instances k) pbs ∙ t.is_instance in
    let addresses : owner_address a mode p.owner ≡ owner_address a mode q.owner = cc in
    let owners = one_owner a mode p.owner q.owner addresses in
    let both : local_of p.owner p.port p.bit ≡ local_of q.owner q.port q.bit = cc in
    both

-- a local pin has one number
one_number : (instances : List Address) (pins : List PinAt) (n m : ℕ) (a : Address) (mode : ℕ) (p : LocalPin) → AreOnce instances → AreOnce pins →
    Stands instances pins n a mode p → Stands instances pins m a mode p → n ≡ m
one_number instances pins n m a mode p once_i once_p s t =
    let pbs : s.pb ≡ t.pb = once_i s.pb t.pb (owner_address a mode p.owner) s.is_instance t.is_instance in
    once_p n m (pin_at s.pb p.port p.bit) s.is_pin (t.is_pin ∙ ap (λ k. Some (pin_at k p.port p.bit)) (sym pbs))

-- one place of a list has one element
one_at : {X : Type 0} (xs : List X) (i j : ℕ) (x y : X) → i ≡ j → slice_get xs i ≡ Some x → slice_get xs j ≡ Some y → x ≡ y
one_at xs i j x y e at_i at_j = let read = ap (λ k. slice_get xs k) e in cc

one_mode : (b c : PbType) (i j : ℕ) (x y : Mode) → b ≡ c → i ≡ j → slice_get (modes_of b.kind) i ≡ Some x → slice_get (modes_of c.kind) j ≡ Some y → x ≡ y
one_mode b c i j x y e f at_i at_j =
    let lists : modes_of b.kind ≡ modes_of c.kind = ap (λ (p : PbType). modes_of p.kind) e in
    one_at (modes_of c.kind) i j x y f (subst (λ ms. slice_get ms i ≡ Some x) lists at_i) at_j

-- an edge that was added, with its local edge and its place among those added
record IsAdded (instances : List Address) (pins : List PinAt) (owner mode : ℕ) (local : List LocalEdge) (k : ℕ) (e : Edge) : Type 0 where
  l : LocalEdge
  at : slice_get local k ≡ Some l
  placed : IsPlaced instances pins owner mode l e

is_added : (instances : List Address) (pins : List PinAt) (owner mode : ℕ) (local : List LocalEdge) (old new : List Edge) →
    (adds : AddsPlaced instances pins owner mode local old new) → (k : ℕ) (e : Edge) → slice_get adds.more k ≡ Some e → IsAdded instances pins owner mode local k e
is_added instances pins owner mode local old new adds k e at_k =
    let inside : k < length local = omega (arith, slice_get_within adds.more k e at_k, adds.all) in
    let l = element local k inside in
    record { l = l.0; at = l.1; placed = adds.placed k l.0 e l.1 at_k }

module _ (blocks : List PbType) (instances : List Address) (pins : List PinAt) (n m : ℕ) (block : PbType) (address : Address) (mode : Mode) (local : List LocalEdge)
    (old new : List Edge) (once_i : AreOnce instances) (once_p : AreOnce pins) (is_block : slice_get blocks n ≡ Some block) (is_address : slice_get instances n ≡ Some address)
    (is_mode : slice_get (modes_of block.kind) m ≡ Some mode) (are : AreEdges block mode local) (adds : AddsPlaced instances pins n m local old new)
    (before : AreBefore blocks instances pins n m old) where
  -- an edge that was added is an edge of the graph
  made : (k : ℕ) (e : Edge) → IsAdded instances pins n m local k e → IsMade blocks instances pins e
  made k e added =
      let p = added.placed in
      subst (λ x. IsMade blocks instances pins x) (sym p.is) (record {
        address = address;
        is_owner = is_address;
        block = block;
        is_block = is_block;
        mode = mode;
        is_mode = is_mode;
        src = added.l.src;
        dst = added.l.dst;
        edge = are.each added.l (has_at local k added.l added.at);
        is_src = p.at_src address is_address;
        is_dst = p.at_dst address is_address;
      })

  owner_is : (k : ℕ) (e : Edge) → IsAdded instances pins n m local k e → e.owner.0 ≡ n
  owner_is k e added = ap (λ (x : Edge). x.owner.0) added.placed.is

  mode_is : (k : ℕ) (e : Edge) → IsAdded instances pins n m local k e → e.mode ≡ m
  mode_is k e added = ap (λ (x : Edge). x.mode) added.placed.is

  -- an edge before this mode isn't one that was added
  apart : (k : ℕ) (e f : Edge) → IsBefore n m e → IsAdded instances pins n m local k f → e.owner.0 ≡ f.owner.0 → e.mode ≡ f.mode → ⊥
  apart k e f (inl low) added owners modes = absurd (too_low (owner_is k f added))
    where
      too_low : f.owner.0 ≡ n → ⊥
      too_low is = omega arith
  apart k e f (inr low) added owners modes = absurd (too_low (mode_is k f added) low.1)
    where
      too_low : f.mode ≡ m → e.mode < m → ⊥
      too_low is less = omega arith

  batch_each : (e : Edge) → Has new e → IsMade blocks instances pins e × IsBefore n (m + 1) e
  batch_each e has = elim (has_either old adds.more e (subst (λ es. Has es e) adds.is has)) [
    | inl left ↦
        let was = before.each e left in
        (was.0, wider was.1)
    | inr right ↦
        let place = at_has adds.more e right in
        let added = is_added instances pins n m local old new adds place.0 e place.1 in
        let same = mode_is place.0 e added in
        (made place.0 e added, inr (owner_is place.0 e added, omega (arith, same)))
  ]
    where
      wider : IsBefore n m e → IsBefore n (m + 1) e
      wider (inl low) = inl low
      wider (inr low) = inr (low.0, omega (arith, low.1))

  -- an edge of this mode was added
  batch_has : (e : Edge) → IsMade blocks instances pins e → e.owner.0 ≡ n → e.mode ≡ m → Has adds.more e
  batch_has e is owner mode_same =
      let here : is.block ≡ block = one_at blocks e.owner.0 n is.block block owner is.is_block is_block in
      let there : is.address ≡ address = one_at instances e.owner.0 n is.address address owner is.is_owner is_address in
      let modes : is.mode ≡ mode = one_mode is.block block e.mode m is.mode mode here mode_same is.is_mode is_mode in
      let edge : IsEdge block mode e.inter is.src is.dst =
      subst (λ x. IsEdge block x e.inter is.src is.dst) modes (subst (λ b. IsEdge b is.mode e.inter is.src is.dst) here is.edge) in
      let has = are.all e.inter is.src is.dst edge in
      let place = at_has local (record { src = is.src; dst = is.dst; inter = e.inter }) has in
      let inside : place.0 < length adds.more = omega (arith, slice_get_within local place.0 (record { src = is.src; dst = is.dst; inter = e.inter }) place.1, adds.all) in
      let f = element adds.more place.0 inside in
      let placed = adds.placed place.0 (record { src = is.src; dst = is.dst; inter = e.inter }) f.0 place.1 f.1 in
      let src_there = subst (λ k. Stands instances pins e.src.0 address k is.src) mode_same (subst (λ a. Stands instances pins e.src.0 a e.mode is.src) there is.is_src) in
      let dst_there = subst (λ k. Stands instances pins e.dst.0 address k is.dst) mode_same (subst (λ a. Stands instances pins e.dst.0 a e.mode is.dst) there is.is_dst) in
      let sources : placed.src ≡ e.src.0 = one_number instances pins placed.src e.src.0 address m is.src once_i once_p (placed.at_src address is_address) src_there in
      let ends : placed.dst ≡ e.dst.0 = one_number instances pins placed.dst e.dst.0 address m is.dst once_i once_p (placed.at_dst address is_address) dst_there in
      let same : edge_at placed.src placed.dst n m e.inter ≡ edge_at e.src.0 e.dst.0 e.owner.0 e.mode e.inter = cc in
      has_at adds.more place.0 e (f.1 ∙ ap Some (placed.is ∙ same))

  batch_all : (e : Edge) → IsMade blocks instances pins e → IsBefore n (m + 1) e → Has new e
  batch_all e is (inl low) = subst (λ es. Has es e) (sym adds.is) (has_left old adds.more e (before.all e is (inl low)))
  batch_all e is (inr low) = subst (λ es. Has es e) (sym adds.is) (by (eq-or-lt_of_le below))
    where
      below : e.mode ≤ m
      below = omega (arith, low.1)

      by : (e.mode ≡ m) ⊎ (e.mode < m) → Has (old ++ adds.more) e
      by (inl same) = has_right old adds.more e (batch_has e is low.0 same)
      by (inr less) = has_left old adds.more e (before.all e is (inr (low.0, less)))

  -- two that were added with the same ends have one place
  batch_once_more : (i j : ℕ) (e f : Edge) → slice_get adds.more i ≡ Some e → slice_get adds.more j ≡ Some f → e.src ≡ f.src → e.dst ≡ f.dst → i ≡ j
  batch_once_more i j e f at_i at_j sources ends =
      let x = is_added instances pins n m local old new adds i e at_i in
      let y = is_added instances pins n m local old new adds j f at_j in
      let src_e : e.src.0 ≡ x.placed.src = ap (λ (k : Edge). k.src.0) x.placed.is in
      let src_f : f.src.0 ≡ y.placed.src = ap (λ (k : Edge). k.src.0) y.placed.is in
      let dst_e : e.dst.0 ≡ x.placed.dst = ap (λ (k : Edge). k.dst.0) x.placed.is in
      let dst_f : f.dst.0 ≡ y.placed.dst = ap (λ (k : Edge). k.dst.0) y.placed.is in
      let srcs : y.placed.src ≡ x.placed.src = cc in
      let dsts : y.placed.dst ≡ x.placed.dst = cc in
      let from = one_local instances pins x.placed.src address m x.l.src y.l.src (x.placed.at_src address is_address)
      (subst (λ k. Stands instances pins k address m y.l.src) srcs (y.placed.at_src address is_address)) in
      let into = one_local instances pins x.placed.dst address m x.l.dst y.l.dst (x.placed.at_dst address is_address)
      (subst (λ k. Stands instances pins k address m y.l.dst) dsts (y.placed.at_dst address is_address)) in
      are.once i j x.l y.l x.at y.at from into

  batch_once : (i j : ℕ) (e f : Edge) → slice_get new i ≡ Some e → slice_get new j ≡ Some f → e.owner ≡ f.owner → e.mode ≡ f.mode → e.src ≡ f.src → e.dst ≡ f.dst → i ≡ j
  batch_once i j e f at_i at_j owners modes sources ends =
      by (get_either old adds.more i e (subst (λ es. slice_get es i ≡ Some e) adds.is at_i)) (get_either old adds.more j f (subst (λ es. slice_get es j ≡ Some f) adds.is at_j))
    where
      numbers : e.owner.0 ≡ f.owner.0
      numbers = ap (λ x. x.0) owners

      by : (slice_get old i ≡ Some e) ⊎ ((k : ℕ) × (i ≡ length old + k) × (slice_get adds.more k ≡ Some e)) →
          (slice_get old j ≡ Some f) ⊎ ((k : ℕ) × (j ≡ length old + k) × (slice_get adds.more k ≡ Some f)) → i ≡ j
      by (inl x) (inl y) = before.once i j e f x y owners modes sources ends
      by (inl x) (inr y) =
          absurd (apart y.0 e f (before.each e (has_at old i e x)).1 (is_added instances pins n m local old new adds y.0 f y.2) numbers modes)
      by (inr x) (inl y) =
          absurd (apart x.0 f e (before.each f (has_at old j f y)).1 (is_added instances pins n m local old new adds x.0 e x.2) (sym numbers) (sym modes))
      by (inr x) (inr y) = let same = batch_once_more x.0 y.0 e f x.2 y.2 sources ends in omega (arith, x.1, y.1, same)

  -- two that were added stand in the order of the mode's list
  in_turn : (i j : ℕ) (e f : Edge) → i < j → IsAdded instances pins n m local i e → IsAdded instances pins n m local j f → StandInTurn blocks instances pins e f
  in_turn i j e f less p q =
      let owner = owner_is i e p in
      let same = mode_is i e p in
      record {
        block = block;
        is_block = subst (λ k. slice_get blocks k ≡ Some block) (sym owner) is_block;
        mode = mode;
        is_mode = subst (λ k. slice_get (modes_of block.kind) k ≡ Some mode) (sym same) is_mode;
        local = local;
        are = are;
        i = i;
        j = j;
        less = less;
        first = p.l;
        second = q.l;
        at_i = p.at;
        at_j = q.at;
        is_first = moved owner same p.l e p.placed;
        is_second = moved owner same q.l f q.placed;
      }
    where
      moved : e.owner.0 ≡ n → e.mode ≡ m → (l : LocalEdge) (x : Edge) → IsPlaced instances pins n m l x → IsPlaced instances pins e.owner.0 e.mode l x
      moved owner same l x placed =
          subst (λ k. IsPlaced instances pins e.owner.0 k l x) (sym same) (subst (λ k. IsPlaced instances pins k m l x) (sym owner) placed)

  batch_ordered : (i j : ℕ) (e f : Edge) → i < j → slice_get new i ≡ Some e → slice_get new j ≡ Some f → Precedes blocks instances pins e f
  batch_ordered i j e f low at_i at_j =
      by (get_either old adds.more i e (subst (λ es. slice_get es i ≡ Some e) adds.is at_i)) (get_either old adds.more j f (subst (λ es. slice_get es j ≡ Some f) adds.is at_j))
    where
      earlier : (k : ℕ) → IsBefore n m e → IsAdded instances pins n m local k f → Precedes blocks instances pins e f
      earlier k (inl less) y = let is = owner_is k f y in inl (omega arith)
      earlier k (inr less) y = let is = owner_is k f y in let at = mode_is k f y in inr (less.0 ∙ sym is, inl (omega (arith, less.1)))

      by : (slice_get old i ≡ Some e) ⊎ ((k : ℕ) × (i ≡ length old + k) × (slice_get adds.more k ≡ Some e)) →
          (slice_get old j ≡ Some f) ⊎ ((k : ℕ) × (j ≡ length old + k) × (slice_get adds.more k ≡ Some f)) → Precedes blocks instances pins e f
      by (inl x) (inl y) = before.ordered i j e f low x y
      by (inl x) (inr y) = earlier y.0 (before.each e (has_at old i e x)).1 (is_added instances pins n m local old new adds y.0 f y.2)
      by (inr x) (inl y) = let inside = slice_get_within old j f y in let place = x.1 in absurd (omega arith)
      by (inr x) (inr y) =
          let p = is_added instances pins n m local old new adds x.0 e x.2 in
          let q = is_added instances pins n m local old new adds y.0 f y.2 in
          let less : x.0 < y.0 = omega (arith, x.1, y.1) in
          inr (owner_is x.0 e p ∙ sym (owner_is y.0 f q), inr (mode_is x.0 e p ∙ sym (mode_is y.0 f q), in_turn x.0 y.0 e f less p q))

  pub batch : AreBefore blocks instances pins n (m + 1) new
  batch = record { each = batch_each; all = batch_all; once = batch_once; ordered = batch_ordered }
