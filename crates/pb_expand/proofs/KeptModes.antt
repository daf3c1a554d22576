-- Placing the edges of the kept modes of an instance: the modes in between have none.
use Rattle.std.proofs.Common.{◌≡◌, ◌+◌, ◌<◌, ◌≤◌, ◌⊎◌, ℕ, zero, suc, List, [], ◌-◌, Some, length, slice_get, refl, sym, ap, ◌∙◌, subst, inl, inr, arith, eq-or-lt_of_le}
use Rattle.std.proofs.lemmas.Bool.{cases_lt}
use Rattle.std.proofs.lemmas.List.{append-nil}
use Rattle.std.proofs.lemmas.Option.{slice_get_within}
use Rattle.arch_types.specs.declared.block.PbType.{PbType}
use Rattle.arch_types.specs.declared.block.Mode.{Mode}
use Rattle.arch_types.specs.Tree.{modes_of}
use Rattle.mode_edges.specs.declared.pin.LocalEdge.{LocalEdge}
use Rattle.mode_edges.specs.Edges.{AreEdges}
use Rattle.pb_expand.specs.declared.number.Edge.{Edge}
use Rattle.pb_expand.specs.declared.number.PinAt.{PinAt}
use Rattle.pb_expand.specs.declared.number.Step.{Step}
use Rattle.pb_expand.specs.declared.edges.ModeEdges.{ModeEdges}
use Rattle.pb_expand.specs.Rows.{addresses}
use Rattle.pb_expand.specs.Making.{AreParts, AreBefore, AddsPlaced, AreModeEdges}
use Rattle.pb_expand.proofs.Lists.{element}
use Rattle.pb_expand.proofs.Batch.{batch}
use Rattle.pb_expand.proofs.EdgeList.{mode_ends}

-- the edges of one more mode of an instance were added
pub one_more : (blocks : List PbType) (rows : List Step) (pins : List PinAt) (n m : ℕ) (block : PbType) (mode : Mode) (local : List LocalEdge) (old new : List Edge) →
    AreParts blocks rows pins → slice_get blocks n ≡ Some block → slice_get (modes_of block.kind) m ≡ Some mode → AreEdges block mode local →
    AddsPlaced (addresses rows) pins n m local old new → AreBefore blocks (addresses rows) pins n m old → AreBefore blocks (addresses rows) pins n (m + 1) new
one_more blocks rows pins n m block mode local old new parts at_n at_m are adds before =
    let address = element (addresses rows) n (omega (arith, slice_get_within blocks n block at_n, parts.all_addresses)) in
    batch blocks (addresses rows) pins n m block address.0 mode local old new parts.numbered.once_instances parts.numbered.once_pins at_n address.1 at_m are adds before

-- a mode without edges is passed
pub pass_one : (blocks : List PbType) (rows : List Step) (pins : List PinAt) (n m : ℕ) (block : PbType) (mode : Mode) (edges : List Edge) →
    AreParts blocks rows pins → slice_get blocks n ≡ Some block → slice_get (modes_of block.kind) m ≡ Some mode → AreEdges block mode [] →
    AreBefore blocks (addresses rows) pins n m edges → AreBefore blocks (addresses rows) pins n (m + 1) edges
pass_one blocks rows pins n m block mode edges parts at_n at_m none before =
    one_more blocks rows pins n m block mode [] edges edges parts at_n at_m none
    (record { more = []; is = sym (append-nil edges); all = refl; placed = λ k l e at_l at_e. absurd (cc) }) before

-- so are many of them
pass_many : (blocks : List PbType) (rows : List Step) (pins : List PinAt) (n m count : ℕ) (block : PbType) (edges : List Edge) →
    AreParts blocks rows pins → slice_get blocks n ≡ Some block → m + count ≤ length (modes_of block.kind) →
    ((k : ℕ) (mode : Mode) → m ≤ k → k < m + count → slice_get (modes_of block.kind) k ≡ Some mode → AreEdges block mode []) →
    AreBefore blocks (addresses rows) pins n m edges → AreBefore blocks (addresses rows) pins n (m + count) edges
pass_many blocks rows pins n m zero block edges parts at_n inside none before =
    let same : m ≡ m + 0 = omega arith in subst (λ k. AreBefore blocks (addresses rows) pins n k edges) same before
pass_many blocks rows pins n m (suc count) block edges parts at_n inside none before =
    let mode = element (modes_of block.kind) m (omega arith) in
    let next = pass_one blocks rows pins n m block mode.0 edges parts at_n mode.1 (none m mode.0 (omega arith) (omega arith) mode.1) before in
    let same : (m + 1) + count ≡ m + suc count = omega arith in
    subst (λ k. AreBefore blocks (addresses rows) pins n k edges) same
    (pass_many blocks rows pins n (m + 1) count block edges parts at_n (omega arith) (λ k is low high at_k. none k is (omega arith) (omega arith) at_k) next)

-- the edges of the first k kept modes of an instance were added: those of all modes before `next`
pub record ArePassed (blocks : List PbType) (rows : List Step) (pins : List PinAt) (n k : ℕ) (kept : List ModeEdges) (edges : List Edge) : Type 0 where
  pub next : ℕ
  pub before : AreBefore blocks (addresses rows) pins n next edges
  pub inside : (block : PbType) → slice_get blocks n ≡ Some block → next ≤ length (modes_of block.kind)
  pub passed : (i : ℕ) (one : ModeEdges) → i < k → slice_get kept i ≡ Some one → one.mode < next
  pub ahead : (i : ℕ) (one : ModeEdges) → k ≤ i → slice_get kept i ≡ Some one → next ≤ one.mode

pub passed_none : (blocks : List PbType) (rows : List Step) (pins : List PinAt) (n : ℕ) (kept : List ModeEdges) (edges : List Edge) →
    AreBefore blocks (addresses rows) pins n 0 edges → ArePassed blocks rows pins n 0 kept edges
passed_none blocks rows pins n kept edges before = record {
  next = 0;
  before = before;
  inside = λ block at. omega arith;
  passed = λ i one low at. absurd (omega (arith, low));
  ahead = λ i one low at. omega arith;
}

-- the modes before the next kept one are passed
pass_to : (blocks : List PbType) (rows : List Step) (pins : List PinAt) (n k to : ℕ) (block : PbType) (kept : List ModeEdges) (edges : List Edge) → AreParts blocks rows pins →
    slice_get blocks n ≡ Some block → AreModeEdges block (length (modes_of block.kind)) kept → (p : ArePassed blocks rows pins n k kept edges) →
    p.next ≤ to → to ≤ length (modes_of block.kind) → ((i : ℕ) (one : ModeEdges) → k ≤ i → slice_get kept i ≡ Some one → to ≤ one.mode) →
    AreBefore blocks (addresses rows) pins n to edges
pass_to blocks rows pins n k to block kept edges parts at_n are p low high ahead =
    by (to - p.next) (omega (arith, low))
  where
    not_kept : (m : ℕ) → p.next ≤ m → m < to → (i : ℕ) (one : ModeEdges) → slice_get kept i ≡ Some one → one.mode ≡ m → ⊥
    not_kept m least most i one at_i same = side (cases_lt i k)
      where
        side : (i < k) ⊎ (k ≤ i) → ⊥
        side (inl less) = omega (arith, p.passed i one less at_i)
        side (inr more) = omega (arith, ahead i one more at_i)

    by : (count : ℕ) → p.next + count ≡ to → AreBefore blocks (addresses rows) pins n to edges
    by count sum = subst (λ m. AreBefore blocks (addresses rows) pins n m edges) sum
        (pass_many blocks rows pins n p.next count block edges parts at_n (omega arith)
        (λ m mode least most at_m. are.rest m mode (slice_get_within (modes_of block.kind) m mode at_m) at_m (not_kept m least (omega arith))) p.before)

-- the edges of all modes before the next kept one are there
pub up_to : (blocks : List PbType) (rows : List Step) (pins : List PinAt) (n k : ℕ) (block : PbType) (kept : List ModeEdges) (one : ModeEdges) (edges : List Edge) →
    AreParts blocks rows pins → slice_get blocks n ≡ Some block → AreModeEdges block (length (modes_of block.kind)) kept → slice_get kept k ≡ Some one →
    ArePassed blocks rows pins n k kept edges → AreBefore blocks (addresses rows) pins n one.mode edges
up_to blocks rows pins n k block kept one edges parts at_n are at_k p =
    pass_to blocks rows pins n k one.mode block kept edges parts at_n are p (p.ahead k one (omega arith) at_k) (omega (arith, are.before k one at_k))
    (λ i x low at_i. by i x at_i (eq-or-lt_of_le low))
  where
    by : (i : ℕ) (x : ModeEdges) → slice_get kept i ≡ Some x → (k ≡ i) ⊎ (k < i) → one.mode ≤ x.mode
    by i x at_i (inl same) =
        let read : slice_get kept k ≡ Some x = ap (λ j. slice_get kept j) same ∙ at_i in
        let here : one ≡ x = cc (read, at_k) in
        omega (arith, ap (λ (y : ModeEdges). y.mode) here)
    by i x at_i (inr less) = omega (arith, are.ascend k i one x less at_k at_i)

-- the edges of one more kept mode were added
pub pass_kept : (blocks : List PbType) (rows : List Step) (pins : List PinAt) (n k : ℕ) (block : PbType) (kept : List ModeEdges) (one : ModeEdges) (old new : List Edge) →
    AreParts blocks rows pins → slice_get blocks n ≡ Some block → AreModeEdges block (length (modes_of block.kind)) kept → slice_get kept k ≡ Some one →
    AddsPlaced (addresses rows) pins n one.mode one.edges.items old new → ArePassed blocks rows pins n k kept old → ArePassed blocks rows pins n (k + 1) kept new
pass_kept blocks rows pins n k block kept one old new parts at_n are at_k adds p =
    let mode = are.each k one at_k in
    let before = up_to blocks rows pins n k block kept one old parts at_n are at_k p in
    let least = p.ahead k one (omega arith) at_k in
    record {
      next = one.mode + 1;
      before = one_more blocks rows pins n one.mode block mode.0 one.edges.items old new parts at_n mode.1 mode.2 adds before;
      inside = λ b at_b. inside b at_b;
      passed = λ i x low at_i. passed least i x at_i (eq-or-lt_of_le (at_most i low));
      ahead = λ i x low at_i. omega (arith, are.ascend k i one x (omega arith) at_k at_i);
    }
  where
    inside : (b : PbType) → slice_get blocks n ≡ Some b → one.mode + 1 ≤ length (modes_of b.kind)
    inside b at_b =
        let same : block ≡ b = cc (at_n, at_b) in
        omega (arith, are.before k one at_k, ap (λ (x : PbType). length (modes_of x.kind)) same)

    at_most : (i : ℕ) → i < k + 1 → i ≤ k
    at_most i low = omega arith

    passed : p.next ≤ one.mode → (i : ℕ) (x : ModeEdges) → slice_get kept i ≡ Some x → (i ≡ k) ⊎ (i < k) → x.mode < one.mode + 1
    passed least i x at_i (inl same) =
        let read : slice_get kept k ≡ Some x = ap (λ j. slice_get kept j) (sym same) ∙ at_i in
        let here : one ≡ x = cc (read, at_k) in
        omega (arith, ap (λ (y : ModeEdges). y.mode) here)
    passed least i x at_i (inr less) = omega (arith, p.passed i x less at_i)

-- all kept modes were passed, and so all modes
pub passed_all : (blocks : List PbType) (rows : List Step) (pins : List PinAt) (n k : ℕ) (block : PbType) (kept : List ModeEdges) (edges : List Edge) →
    AreParts blocks rows pins → slice_get blocks n ≡ Some block → AreModeEdges block (length (modes_of block.kind)) kept → length kept ≤ k →
    ArePassed blocks rows pins n k kept edges → AreBefore blocks (addresses rows) pins (n + 1) 0 edges
passed_all blocks rows pins n k block kept edges parts at_n are done p =
    mode_ends blocks (addresses rows) pins n (length (modes_of block.kind)) block edges at_n (omega arith)
    (pass_to blocks rows pins n k (length (modes_of block.kind)) block kept edges parts at_n are p (p.inside block at_n) (omega arith)
    (λ i x low at_i. absurd (omega (arith, low, done, slice_get_within kept i x at_i))))
