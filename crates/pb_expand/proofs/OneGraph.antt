-- A block type has one graph: its edges are known, and the order in which they stand is strict.
use Rattle.std.proofs.Common.{◌≡◌, inl, inr, ℕ, List, Some, slice_get, sym, ◌∙◌, ap, subst, arith}
use Rattle.arch_types.specs.declared.block.PbType.{PbType}
use Rattle.arch_types.specs.declared.block.Mode.{Mode}
use Rattle.arch_types.specs.Tree.{modes_of}
use Rattle.arch_types.specs.Address.{Address, at, instances_of}
use Rattle.mode_edges.specs.declared.pin.LocalEdge.{LocalEdge}
use Rattle.mode_edges.specs.declared.pin.LocalPin.{LocalPin}
use Rattle.mode_edges.specs.Edges.{AreEdges, HasOneList}
use Rattle.pb_expand.specs.declared.number.Edge.{Edge}
use Rattle.pb_expand.specs.declared.number.PinAt.{PinAt}
use Rattle.pb_expand.specs.Graph.{Graph, pins_of}
use Rattle.pb_expand.specs.Expansion.{StandsAt, IsEdgeOf, IsLocal, AreInTurn, StandsBefore, HasEdges, HasOneGraph}
use Rattle.pb_expand.proofs.Batch.{one_local}
use Rattle.pb_expand.proofs.EdgeList.{back}
use Rattle.pb_expand.proofs.Ranked.{one_order}

-- a graph with other edges
abbrev with_edges : Graph → List Edge → Graph
with_edges g edges = record { block = g.block; root = g.root; instances = g.instances; pins = g.pins; edges = edges }

stands_too : (g : Graph) (xs ys : List Edge) (n : ℕ) (a : Address) (m : ℕ) (p : LocalPin) → StandsAt (with_edges g xs) n a m p → StandsAt (with_edges g ys) n a m p
stands_too g xs ys n a m p s = record { pb = s.pb; is_pin = s.is_pin; is_instance = s.is_instance }

edge_too : (g : Graph) (xs ys : List Edge) (e : Edge) → IsEdgeOf (with_edges g xs) e → IsEdgeOf (with_edges g ys) e
edge_too g xs ys e is = record {
  address = is.address;
  is_owner = is.is_owner;
  block = is.block;
  is_block = is.is_block;
  mode = is.mode;
  is_mode = is.is_mode;
  src = is.src;
  dst = is.dst;
  edge = is.edge;
  is_src = stands_too g xs ys e.src.0 is.address e.mode is.src is.is_src;
  is_dst = stands_too g xs ys e.dst.0 is.address e.mode is.dst is.is_dst;
}

local_too : (g : Graph) (xs ys : List Edge) (e : Edge) (a : Address) (m : ℕ) (l : LocalEdge) → IsLocal (with_edges g xs) e a m l → IsLocal (with_edges g ys) e a m l
local_too g xs ys e a m l is = record {
  inter = is.inter;
  is_mode = is.is_mode;
  is_src = stands_too g xs ys e.src.0 a m l.src is.is_src;
  is_dst = stands_too g xs ys e.dst.0 a m l.dst is.is_dst;
}

before_too : (g : Graph) (xs ys : List Edge) (e f : Edge) → StandsBefore (with_edges g xs) e f → StandsBefore (with_edges g ys) e f
before_too g xs ys e f (inl less) = inl less
before_too g xs ys e f (inr (owner, inl less)) = inr (owner, inl less)
before_too g xs ys e f (inr (owner, inr (mode, t))) = inr (
  owner,
  inr (
    mode,
    record {
      address = t.address;
      is_owner = t.is_owner;
      block = t.block;
      is_block = t.is_block;
      mode = t.mode;
      is_mode = t.is_mode;
      local = t.local;
      are = t.are;
      i = t.i;
      j = t.j;
      less = t.less;
      first = t.first;
      second = t.second;
      at_i = t.at_i;
      at_j = t.at_j;
      is_first = local_too g xs ys e t.address e.mode t.first t.is_first;
      is_second = local_too g xs ys f t.address e.mode t.second t.is_second;
    },
  ),
)

module _ (one_list : HasOneList) (g : Graph) where
  -- an edge has one place in its mode's list
  one_place : (e : Edge) (a b : Address) (m n : ℕ) (block other : PbType) (mode is : Mode) (xs ys : List LocalEdge) (i j : ℕ) (l k : LocalEdge) →
      a ≡ b → m ≡ n → block ≡ other → mode ≡ is → AreEdges block mode xs → AreEdges other is ys → slice_get xs i ≡ Some l → slice_get ys j ≡ Some k →
      IsLocal g e a m l → IsLocal g e b n k → i ≡ j
  one_place e a b m n block other mode is xs ys i j l k addresses numbers blocks modes are too at_i at_j here there =
      let moved : AreEdges block mode ys = subst (λ (x : Mode). AreEdges block x ys) (sym modes) (subst (λ (p : PbType). AreEdges p is ys) (sym blocks) too) in
      let lists : xs ≡ ys = one_list block mode xs ys are moved in
      let same : IsLocal g e a m k = subst (λ x. IsLocal g e a x k) (sym numbers) (subst (λ x. IsLocal g e x n k) (sym addresses) there) in
      let srcs = one_local g.instances g.pins e.src.0 a m l.src k.src (back g e.src.0 a m l.src here.is_src) (back g e.src.0 a m k.src same.is_src) in
      let dsts = one_local g.instances g.pins e.dst.0 a m l.dst k.dst (back g e.dst.0 a m l.dst here.is_dst) (back g e.dst.0 a m k.dst same.is_dst) in
      are.once i j l k at_i (subst (λ zs. slice_get zs j ≡ Some k) (sym lists) at_j) srcs dsts

  both_turns : (e f : Edge) → e.owner.0 ≡ f.owner.0 → e.mode ≡ f.mode → AreInTurn g e f → AreInTurn g f e → ⊥
  both_turns e f owners numbers a b =
      let here : Some a.address ≡ Some b.address = sym a.is_owner ∙ ap (λ n. slice_get g.instances n) owners ∙ b.is_owner in
      let addresses : a.address ≡ b.address = cc in
      let there : Some a.block ≡ Some b.block = sym a.is_block ∙ ap (at g.root) addresses ∙ b.is_block in
      let blocks : a.block ≡ b.block = cc in
      let read : Some a.mode ≡ Some b.mode = sym a.is_mode ∙ ap (λ (p : PbType). slice_get (modes_of p.kind) e.mode) blocks ∙ ap (λ n. slice_get (modes_of b.block.kind) n) numbers ∙ b.is_mode in
      let modes : a.mode ≡ b.mode = cc in
      let one : a.i ≡ b.j = one_place e a.address b.address e.mode f.mode a.block b.block a.mode b.mode a.local b.local a.i b.j a.first b.second
      addresses numbers blocks modes a.are b.are a.at_i b.at_j a.is_first b.is_second in
      let other : a.j ≡ b.i = one_place f a.address b.address e.mode f.mode a.block b.block a.mode b.mode a.local b.local a.j b.i a.second b.first
      addresses numbers blocks modes a.are b.are a.at_j b.at_i a.is_second b.is_first in
      omega (arith, a.less, b.less, one, other)

  not_both : (e f : Edge) → StandsBefore g e f → StandsBefore g f e → ⊥
  not_both e f (inl a) (inl b) = omega arith
  not_both e f (inl a) (inr (same, b)) = omega arith
  not_both e f (inr (same, a)) (inl b) = omega arith
  not_both e f (inr (same, inl a)) (inr (again, inl b)) = omega arith
  not_both e f (inr (same, inl a)) (inr (again, inr (mode, b))) = omega arith
  not_both e f (inr (same, inr (mode, a))) (inr (again, inl b)) = omega arith
  not_both e f (inr (same, inr (mode, a))) (inr (again, inr (other, b))) = both_turns e f same mode a b

one_edges : HasOneList → (g : Graph) (xs ys : List Edge) → HasEdges (with_edges g xs) → HasEdges (with_edges g ys) → xs ≡ ys
one_edges one_list g xs ys a b =
    one_order (StandsBefore (with_edges g xs)) xs ys (not_both one_list (with_edges g xs)) a.ordered
    (λ i j e f less at_i at_j. before_too g ys xs e f (b.ordered i j e f less at_i at_j))
    (λ e has. b.all e (edge_too g xs ys e (a.each e has))) (λ e has. a.all e (edge_too g ys xs e (b.each e has)))

rebuilt : (g h : Graph) → g.block ≡ h.block → g.root ≡ h.root → g.instances ≡ h.instances → g.pins ≡ h.pins → h ≡ with_edges g h.edges
rebuilt g h blocks roots instances pins =
    ap (λ b. made b h.root h.instances h.pins) (sym blocks) ∙ (ap (λ r. made g.block r h.instances h.pins) (sym roots)
    ∙ (ap (λ l. made g.block g.root l h.pins) (sym instances) ∙ ap (made g.block g.root g.instances) (sym pins)))
  where
    made : ℕ → PbType → List Address → List PinAt → Graph
    made b r l ps = record { block = b; root = r; instances = l; pins = ps; edges = h.edges }

pub has_one_graph : HasOneList → HasOneGraph
has_one_graph one_list g h a b roots blocks =
    let instances : g.instances ≡ h.instances = a.instances ∙ ap instances_of roots ∙ sym b.instances in
    let pins : g.pins ≡ h.pins = a.pins ∙ ap pins_of roots ∙ sym b.pins in
    let same = rebuilt g h blocks roots instances pins in
    let edges : g.edges ≡ h.edges = one_edges one_list g g.edges h.edges a.has_edges (subst HasEdges same b.has_edges) in
    ap (with_edges g) edges ∙ sym same
