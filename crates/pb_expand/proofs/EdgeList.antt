-- The edges of a graph from those of its modes.
use Rattle.std.proofs.Common.{◌≡◌, ◌+◌, ◌<◌, ◌≤◌, ◌⊎◌, ◌^◌, ℕ, zero, suc, List, [], ◌∷◌, ◌++◌, Some, length, get_or, take, slice_get, refl, sym, ap, ◌∙◌, subst, inl, inr, arith, length-append, eq-or-lt_of_le, append_assoc}
use Rattle.std.proofs.lemmas.List.{append-nil, take_more, length-take}
use Rattle.std.proofs.lemmas.Option.{slice_get_within, option_and_then_some}
use Rattle.arch_types.specs.declared.block.PbType.{PbType}
use Rattle.arch_types.specs.Tree.{modes_of}
use Rattle.arch_types.specs.Address.{Address, at, step_to}
use Rattle.mode_edges.specs.declared.pin.LocalEdge.{LocalEdge}
use Rattle.mode_edges.specs.declared.pin.LocalPin.{LocalPin}
use Rattle.mode_edges.specs.declared.pin.ChildAt.{ChildAt}
use Rattle.pb_expand.specs.declared.number.Edge.{Edge}
use Rattle.pb_expand.specs.declared.number.PinAt.{PinAt}
use Rattle.pb_expand.specs.declared.number.Step.{Step}
use Rattle.pb_expand.specs.Graph.{Graph, block_at, pin_at, step_from}
use Rattle.pb_expand.specs.Rows.{addresses, IsTree}
use Rattle.pb_expand.specs.Expansion.{owner_address, StandsAt, IsEdgeOf, IsLocal, AreInTurn, StandsBefore, HasEdges}
use Rattle.pb_expand.specs.Making.{AreBlocks, AreShort, Stands, IsPlaced, AddsPlaced, IsMade, IsBefore, StandInTurn, Precedes, AreBefore}
use Rattle.pb_expand.proofs.Lists.{get_either, element, has_at}
use Rattle.pb_expand.proofs.RowLemmas.{row_says}

pub adds_starts : (instances : List Address) (pins : List PinAt) (owner mode : ℕ) (local : List LocalEdge) (old : List Edge) →
    AddsPlaced instances pins owner mode (take 0 local) old old
adds_starts instances pins owner mode local old =
    record { more = []; is = sym (append-nil old); all = refl; placed = λ k l e at_l at_e. absurd (cc) }

pub adds_push : (instances : List Address) (pins : List PinAt) (owner mode k : ℕ) (local : List LocalEdge) (old now new : List Edge) (l : LocalEdge) (e : Edge) →
    AddsPlaced instances pins owner mode (take k local) old now → k < length local → l ≡ get_or local k l → IsPlaced instances pins owner mode l e →
    new ≡ now ++ e ∷ [] → AddsPlaced instances pins owner mode (take (k + 1) local) old new
adds_push instances pins owner mode k local old now new l e adds inside at placed is =
    let longer : take (k + 1) local ≡ take k local ++ l ∷ [] = take_more local k l inside ∙ ap (λ x. take k local ++ x ∷ []) (sym at) in
    let long : length adds.more ≡ k = omega (arith, adds.all, length-take k local) in
    record {
      more = adds.more ++ e ∷ [];
      is = is ∙ ap (λ es. es ++ e ∷ []) adds.is ∙ append_assoc old adds.more (e ∷ []);
      all = length-append adds.more (e ∷ []) ∙ omega (arith, adds.all, ap length longer, length-append (take k local) (l ∷ []));
      placed = λ j x f at_x at_f.
          by j x f (get_either (take k local) (l ∷ []) j x (subst (λ ls. slice_get ls j ≡ Some x) longer at_x)) (get_either adds.more (e ∷ []) j f at_f);
    }
  where
    by_last : (x : LocalEdge) (f : Edge) (i j : ℕ) → slice_get (l ∷ []) i ≡ Some x → slice_get (e ∷ []) j ≡ Some f → IsPlaced instances pins owner mode x f
    by_last x f zero zero at_x at_f =
        let same_l : l ≡ x = cc in
        let same_e : e ≡ f = cc in
        subst (λ y. IsPlaced instances pins owner mode y f) same_l (subst (λ g. IsPlaced instances pins owner mode l g) same_e placed)
    by_last x f (suc i) j at_x at_f = absurd (cc)
    by_last x f zero (suc j) at_x at_f = absurd (cc)

    by : (j : ℕ) (x : LocalEdge) (f : Edge) → (slice_get (take k local) j ≡ Some x) ⊎ ((i : ℕ) × (j ≡ length (take k local) + i) × (slice_get (l ∷ []) i ≡ Some x)) →
        (slice_get adds.more j ≡ Some f) ⊎ ((i : ℕ) × (j ≡ length adds.more + i) × (slice_get (e ∷ []) i ≡ Some f)) → IsPlaced instances pins owner mode x f
    by j x f (inl p) (inl q) = adds.placed j x f p q
    by j x f (inl p) (inr q) = let low = slice_get_within (take k local) j x p in let place = q.1 in absurd (omega (arith, adds.all))
    by j x f (inr p) (inl q) = let low = slice_get_within adds.more j f q in let place = p.1 in absurd (omega (arith, adds.all))
    by j x f (inr p) (inr q) = by_last x f p.0 q.0 p.2 q.2

pub none_before : (blocks : List PbType) (instances : List Address) (pins : List PinAt) → AreBefore blocks instances pins 0 0 []
none_before blocks instances pins = record {
  each = λ e has. absurd has;
  all = λ e is before. absurd (none e before);
  once = λ i j e f at_i at_j owners modes sources ends. absurd (cc);
  ordered = λ i j e f low at_i at_j. absurd (cc);
}
  where
    none : (e : Edge) → IsBefore 0 0 e → ⊥
    none e (inl low) = omega arith
    none e (inr low) = let bad = low.1 in omega arith

-- all modes of an instance were passed
pub mode_ends : (blocks : List PbType) (instances : List Address) (pins : List PinAt) (n m : ℕ) (block : PbType) (edges : List Edge) →
    slice_get blocks n ≡ Some block → length (modes_of block.kind) ≤ m → AreBefore blocks instances pins n m edges → AreBefore blocks instances pins (n + 1) 0 edges
mode_ends blocks instances pins n m block edges at done before = record {
  each = λ e has. let was = before.each e has in (was.0, wider e was.1);
  all = λ e is low. before.all e is (within e is low);
  once = before.once;
  ordered = before.ordered;
}
  where
    wider : (e : Edge) → IsBefore n m e → IsBefore (n + 1) 0 e
    wider e (inl low) = inl (omega arith)
    wider e (inr low) = let is = low.0 in inl (omega arith)

    last : (e : Edge) → IsMade blocks instances pins e → e.owner.0 ≡ n → e.mode < m
    last e is owner =
        let found : Some is.block ≡ Some block = sym is.is_block ∙ ap (λ k. slice_get blocks k) owner ∙ at in
        let same : is.block ≡ block = cc in
        omega (arith, slice_get_within (modes_of is.block.kind) e.mode is.mode is.is_mode, ap (λ (b : PbType). length (modes_of b.kind)) same)

    at_most : (e : Edge) → e.owner.0 < n + 1 → e.owner.0 ≤ n
    at_most e low = omega arith

    within : (e : Edge) → IsMade blocks instances pins e → IsBefore (n + 1) 0 e → IsBefore n m e
    within e is (inl low) = elim (eq-or-lt_of_le (at_most e low)) [ inl same ↦ inr (same, last e is same) | inr less ↦ inl less ]
    within e is (inr low) = let bad = low.1 in absurd (omega arith)

pub there : (g : Graph) (n : ℕ) (a : Address) (m : ℕ) (p : LocalPin) → Stands g.instances g.pins n a m p → StandsAt g n a m p
there g n a m p s = record { pb = s.pb; is_pin = s.is_pin; is_instance = s.is_instance }

pub back : (g : Graph) (n : ℕ) (a : Address) (m : ℕ) (p : LocalPin) → StandsAt g n a m p → Stands g.instances g.pins n a m p
back g n a m p s = record { pb = s.pb; is_pin = s.is_pin; is_instance = s.is_instance }

pub is_edge : (g : Graph) (blocks : List PbType) (e : Edge) → AreBlocks g.root g.instances blocks → IsMade blocks g.instances g.pins e → IsEdgeOf g e
is_edge g blocks e are is =
    let block = are.each e.owner.0 is.address is.is_owner in
    let same : block.0 ≡ is.block = cc (block.2, is.is_block) in
    record {
      address = is.address;
      is_owner = is.is_owner;
      block = is.block;
      is_block = block.1 ∙ ap Some same;
      mode = is.mode;
      is_mode = is.is_mode;
      src = is.src;
      dst = is.dst;
      edge = is.edge;
      is_src = there g e.src.0 is.address e.mode is.src is.is_src;
      is_dst = there g e.dst.0 is.address e.mode is.dst is.is_dst;
    }

pub is_made : (g : Graph) (blocks : List PbType) (e : Edge) → AreBlocks g.root g.instances blocks → IsEdgeOf g e → IsMade blocks g.instances g.pins e
is_made g blocks e are is =
    let block = are.each e.owner.0 is.address is.is_owner in
    let same : block.0 ≡ is.block = cc (block.1, is.is_block) in
    record {
      address = is.address;
      is_owner = is.is_owner;
      block = is.block;
      is_block = block.2 ∙ ap Some same;
      mode = is.mode;
      is_mode = is.is_mode;
      src = is.src;
      dst = is.dst;
      edge = is.edge;
      is_src = back g e.src.0 is.address e.mode is.src is.is_src;
      is_dst = back g e.dst.0 is.address e.mode is.dst is.is_dst;
    }

is_local : (g : Graph) (owner m : ℕ) (a : Address) (l : LocalEdge) (e : Edge) → slice_get g.instances owner ≡ Some a → IsPlaced g.instances g.pins owner m l e → IsLocal g e a m l
is_local g owner m a l e at_owner p =
    let src : e.src.0 ≡ p.src = ap (λ (x : Edge). x.src.0) p.is in
    let dst : e.dst.0 ≡ p.dst = ap (λ (x : Edge). x.dst.0) p.is in
    record {
      inter = ap (λ (x : Edge). x.inter) p.is;
      is_mode = ap (λ (x : Edge). x.mode) p.is;
      is_src = subst (λ n. StandsAt g n a m l.src) (sym src) (there g p.src a m l.src (p.at_src a at_owner));
      is_dst = subst (λ n. StandsAt g n a m l.dst) (sym dst) (there g p.dst a m l.dst (p.at_dst a at_owner));
    }

in_turn : (g : Graph) (blocks : List PbType) (e f : Edge) → AreBlocks g.root g.instances blocks → StandInTurn blocks g.instances g.pins e f → AreInTurn g e f
in_turn g blocks e f are t =
    let address = element g.instances e.owner.0 (omega (arith, slice_get_within blocks e.owner.0 t.block t.is_block, are.all)) in
    let found = are.each e.owner.0 address.0 address.1 in
    let same : found.0 ≡ t.block = cc (found.2, t.is_block) in
    record {
      address = address.0;
      is_owner = address.1;
      block = t.block;
      is_block = found.1 ∙ ap Some same;
      mode = t.mode;
      is_mode = t.is_mode;
      local = t.local;
      are = t.are;
      i = t.i;
      j = t.j;
      less = t.less;
      first = t.first;
      second = t.second;
      at_i = t.at_i;
      at_j = t.at_j;
      is_first = is_local g e.owner.0 e.mode address.0 t.first e address.1 t.is_first;
      is_second = is_local g e.owner.0 e.mode address.0 t.second f address.1 t.is_second;
    }

stands_before : (g : Graph) (blocks : List PbType) (e f : Edge) → AreBlocks g.root g.instances blocks → Precedes blocks g.instances g.pins e f → StandsBefore g e f
stands_before g blocks e f are (inl less) = inl less
stands_before g blocks e f are (inr (owner, inl less)) = inr (owner, inl less)
stands_before g blocks e f are (inr (owner, inr (mode, turn))) = inr (owner, inr (mode, in_turn g blocks e f are turn))

-- all instances were passed: these are the edges of the graph
pub has_edges : (g : Graph) (blocks : List PbType) → AreBlocks g.root g.instances blocks → AreBefore blocks g.instances g.pins (length blocks) 0 g.edges → HasEdges g
has_edges g blocks are before = record {
  each = λ e has. is_edge g blocks e are (before.each e has).0;
  all = λ e is. let made = is_made g blocks e are is in before.all e made (inl (slice_get_within blocks e.owner.0 made.block made.is_block));
  once = before.once;
  ordered = λ i j e f less at_i at_j. stands_before g blocks e f are (before.ordered i j e f less at_i at_j);
}

-- the edges join pins that are there
pub made_inside : (blocks : List PbType) (instances : List Address) (pins : List PinAt) (n m : ℕ) (edges : List Edge) → AreBefore blocks instances pins n m edges →
    (k : ℕ) (e : Edge) → slice_get edges k ≡ Some e → (e.src.0 < length pins) × (e.dst.0 < length pins)
made_inside blocks instances pins n m edges before k e at =
    let made = (before.each e (has_at edges k e at)).0 in (
      slice_get_within pins e.src.0 (pin_at made.is_src.pb made.src.port made.src.bit) made.is_src.is_pin,
      slice_get_within pins e.dst.0 (pin_at made.is_dst.pb made.dst.port made.dst.bit) made.is_dst.is_pin,
    )

-- the pb_types of a graph's instances have few modes each
pub short_at : (g : Graph) (blocks : List PbType) → AreBlocks g.root g.instances blocks → AreShort blocks →
    (n : ℕ) (block : PbType) → block_at g n ≡ Some block → (length (modes_of block.kind) < 2 ^ 32) × (length block.ports < 2 ^ 32)
short_at g blocks are short n block e =
    option_and_then_some (λ a. at g.root a) (slice_get g.instances n) block e
    (λ a at_n found.
    let is = are.each n a at_n in
    let same : is.0 ≡ block = cc (is.1, found) in
    short.each n block (is.2 ∙ ap Some same))

-- a step's row says where its instance stands
pub child_stands : (rows : List Step) (owner mode k : ℕ) (child : ChildAt) → IsTree rows → slice_get rows k ≡ Some (step_from owner mode child.child child.instance) →
    (a : Address) → slice_get (addresses rows) owner ≡ Some a → slice_get (addresses rows) (k + 1) ≡ Some (owner_address a mode (Some child))
child_stands rows owner mode k child tree at_k a at_owner =
    let says = row_says rows k (step_from owner mode child.child child.instance) tree at_k in
    let same : says.parent ≡ a = cc (says.is_parent, at_owner) in
    says.is_child ∙ ap (λ b. Some (step_to b mode child.child child.instance)) same
