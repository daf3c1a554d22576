-- The edges of the modes of a pb_type, made one by one and kept for its other instances.
use Rattle.std.proofs.Common.{◌≡◌, ◌≢◌, ◌+◌, ◌<◌, ◌≤◌, ◌⊎◌, ℕ, zero, suc, List, [], ◌∷◌, ◌++◌, Some, Vec, length, slice_get, refl, sym, ap, ◌∙◌, subst, inl, inr, arith, eq-or-lt_of_le}
use Rattle.std.proofs.lemmas.Option.{slice_get_within}
use Rattle.arch_types.specs.declared.block.PbType.{PbType}
use Rattle.arch_types.specs.declared.block.Mode.{Mode}
use Rattle.arch_types.specs.Tree.{modes_of}
use Rattle.mode_edges.specs.declared.pin.LocalEdge.{LocalEdge}
use Rattle.mode_edges.specs.Edges.{AreEdges}
use Rattle.std.specs.declared.alloc.Global.{Global}
use Rattle.pb_expand.specs.declared.number.PbIx.{PbIx}
use Rattle.pb_expand.specs.declared.edges.ModeEdges.{ModeEdges}
use Rattle.pb_expand.specs.Graph.{pb_ix}
use Rattle.pb_expand.specs.Making.{StandFor, AreModeEdges, AreModeEdgesOf, HaveModeEdges, Keeps}
use Rattle.pb_expand.proofs.Lists.{get_front, get_after, get_either}

pub kept_none : (block : PbType) (kept : List ModeEdges) → kept ≡ [] → AreModeEdges block 0 kept
kept_none block kept e = subst (λ ks. AreModeEdges block 0 ks) (sym e) (record {
  each = λ k one at. absurd (cc);
  before = λ k one at. absurd (cc);
  some = λ k one at. absurd (cc);
  ascend = λ i j a b low at_i at_j. absurd (cc);
  rest = λ m mode low at_m none. absurd (omega (arith, low));
})

kept_without : (block : PbType) (m : ℕ) (kept : List ModeEdges) (mode : Mode) → AreModeEdges block m kept → slice_get (modes_of block.kind) m ≡ Some mode → AreEdges block mode [] →
    AreModeEdges block (m + 1) kept
kept_without block m kept mode are at none = record {
  each = are.each;
  before = λ k one at_k. omega (arith, are.before k one at_k);
  some = are.some;
  ascend = are.ascend;
  rest = λ n is low at_n not_kept. by n is at_n not_kept (eq-or-lt_of_le (at_most n low));
}
  where
    at_most : (n : ℕ) → n < m + 1 → n ≤ m
    at_most n low = omega arith

    by : (n : ℕ) (is : Mode) → slice_get (modes_of block.kind) n ≡ Some is → ((k : ℕ) (one : ModeEdges) → slice_get kept k ≡ Some one → one.mode ≡ n → ⊥) →
        (n ≡ m) ⊎ (n < m) → AreEdges block is []
    by n is at_n not_kept (inl same) =
        let read : slice_get (modes_of block.kind) n ≡ Some mode = ap (λ k. slice_get (modes_of block.kind) k) same ∙ at in
        let modes : mode ≡ is = cc (read, at_n) in
        subst (λ x. AreEdges block x []) modes none
    by n is at_n not_kept (inr low) = are.rest n is low at_n not_kept

kept_with : (block : PbType) (m : ℕ) (kept : List ModeEdges) (mode : Mode) (one : ModeEdges) → AreModeEdges block m kept → slice_get (modes_of block.kind) m ≡ Some mode →
    one.mode ≡ m → AreEdges block mode one.edges.items → 0 < length one.edges.items → AreModeEdges block (m + 1) (kept ++ one ∷ [])
kept_with block m kept mode one are at number edges some = record {
  each = λ k x at_k. each x (split k x at_k);
  before = λ k x at_k. before x (split k x at_k);
  some = λ k x at_k. has_some x (split k x at_k);
  ascend = λ i j a b low at_i at_j. ascend i j a b low at_i (get_either kept (one ∷ []) j b at_j);
  rest = λ n is low at_n not_kept. rest n is low at_n not_kept;
}
  where
    last : (j : ℕ) (x : ModeEdges) → slice_get (one ∷ []) j ≡ Some x → one ≡ x
    last zero x at_j = cc
    last (suc j) x at_j = absurd (cc)

    split : (k : ℕ) (x : ModeEdges) → slice_get (kept ++ one ∷ []) k ≡ Some x → ((i : ℕ) × (slice_get kept i ≡ Some x)) ⊎ (one ≡ x)
    split k x at_k = elim (get_either kept (one ∷ []) k x at_k) [ inl h ↦ inl (k, h) | inr h ↦ inr (last h.0 x h.2) ]

    each : (x : ModeEdges) → ((i : ℕ) × (slice_get kept i ≡ Some x)) ⊎ (one ≡ x) → (is : Mode) × (slice_get (modes_of block.kind) x.mode ≡ Some is) × AreEdges block is x.edges.items
    each x (inl h) = are.each h.0 x h.1
    each x (inr same) = subst (λ y. (is : Mode) × (slice_get (modes_of block.kind) y.mode ≡ Some is) × AreEdges block is y.edges.items) same
        (mode, ap (λ k. slice_get (modes_of block.kind) k) number ∙ at, edges)

    before : (x : ModeEdges) → ((i : ℕ) × (slice_get kept i ≡ Some x)) ⊎ (one ≡ x) → x.mode < m + 1
    before x (inl h) = omega (arith, are.before h.0 x h.1)
    before x (inr same) = omega (arith, number, ap (λ (y : ModeEdges). y.mode) same)

    has_some : (x : ModeEdges) → ((i : ℕ) × (slice_get kept i ≡ Some x)) ⊎ (one ≡ x) → 0 < length x.edges.items
    has_some x (inl h) = are.some h.0 x h.1
    has_some x (inr same) = subst (λ y. 0 < length y.edges.items) same some

    ascend : (i j : ℕ) (a b : ModeEdges) → i < j → slice_get (kept ++ one ∷ []) i ≡ Some a →
        (slice_get kept j ≡ Some b) ⊎ ((n : ℕ) × (j ≡ length kept + n) × (slice_get (one ∷ []) n ≡ Some b)) → a.mode < b.mode
    ascend i j a b low at_i (inl at_j) = elim (get_either kept (one ∷ []) i a at_i) [
      | inl h ↦ are.ascend i j a b low h at_j
      | inr h ↦ absurd (omega (arith, h.1, slice_get_within kept j b at_j))
    ]
    ascend i j a b low at_i (inr p) = elim (get_either kept (one ∷ []) i a at_i) [
      | inl h ↦ omega (arith, are.before i a h, number, ap (λ (y : ModeEdges). y.mode) (last p.0 b p.2))
      | inr h ↦ absurd (omega (arith, low, h.1, p.1, slice_get_within (one ∷ []) p.0 b p.2))
    ]

    rest : (n : ℕ) (is : Mode) → n < m + 1 → slice_get (modes_of block.kind) n ≡ Some is →
        ((k : ℕ) (x : ModeEdges) → slice_get (kept ++ one ∷ []) k ≡ Some x → x.mode ≡ n → ⊥) → AreEdges block is []
    rest n is low at_n not_kept =
        let other : n ≢ m = λ same. not_kept (length kept) one (get_after kept [] one (length kept) refl) (number ∙ sym same) in
        are.rest n is (omega arith) at_n (λ k x at_k. not_kept k x (get_front kept (one ∷ []) k x at_k))

-- one more mode's edges, kept where there are some
pub kept_more : (block : PbType) (m : ℕ) (old new : List ModeEdges) (mode : Mode) (edges : Vec LocalEdge Global) → AreModeEdges block m old →
    slice_get (modes_of block.kind) m ≡ Some mode → AreEdges block mode edges.items → Keeps old m edges new → AreModeEdges block (m + 1) new
kept_more block m old new mode edges are at found (inl none) =
    subst (λ ks. AreModeEdges block (m + 1) ks) (sym none.1) (kept_without block m old mode are at (subst (λ es. AreEdges block mode es) none.0 found))
kept_more block m old new mode edges are at found (inr some) =
    subst (λ ks. AreModeEdges block (m + 1) ks) (sym some.1) (kept_with block m old mode (record { mode = m; edges = edges }) are at refl found some.0)

-- the edges of the modes of an instance are those of the one that stands for it
pub known_at : {A : Type 0} (blocks : List PbType) (firsts : List PbIx) (lists : List (Vec ModeEdges A)) (n : ℕ) (f : PbIx) (made : Vec ModeEdges A) →
    StandFor blocks firsts → HaveModeEdges blocks firsts lists → slice_get firsts n ≡ Some f → slice_get lists f.0 ≡ Some made → AreModeEdgesOf blocks n made.items
known_at blocks firsts lists n f made stand have at_n at_f b at_b =
    let itself : slice_get firsts f.0 ≡ Some (pb_ix f.0) = stand.itself n f at_n in
    have f.0 made itself at_f b (stand.same n f at_n ∙ at_b)

pub lists_push : {A : Type 0} (blocks : List PbType) (firsts : List PbIx) (lists new : List (Vec ModeEdges A)) (n : ℕ) (made : Vec ModeEdges A) →
    HaveModeEdges blocks firsts lists → length lists ≡ n → (slice_get firsts n ≡ Some (pb_ix n) → AreModeEdgesOf blocks n made.items) → new ≡ lists ++ made ∷ [] →
    HaveModeEdges blocks firsts new
lists_push {A} blocks firsts lists new n made have count here e k l at_k at_l = by (get_either lists (made ∷ []) k l (subst (λ ls. slice_get ls k ≡ Some l) e at_l))
  where
    last : (j : ℕ) → k ≡ length lists + j → slice_get (made ∷ []) j ≡ Some l → AreModeEdgesOf blocks k l.items
    last zero place at =
        let same : made ≡ l = cc in
        let is : k ≡ n = omega (arith, count) in
        subst (λ (x : Vec ModeEdges A). AreModeEdgesOf blocks k x.items) same
        (subst (λ m. AreModeEdgesOf blocks m made.items) (sym is) (here (subst (λ m. slice_get firsts m ≡ Some (pb_ix m)) is at_k)))
    last (suc j) place at = absurd (cc)

    by : (slice_get lists k ≡ Some l) ⊎ ((j : ℕ) × (k ≡ length lists + j) × (slice_get (made ∷ []) j ≡ Some l)) → AreModeEdgesOf blocks k l.items
    by (inl at) = have k l at_k at
    by (inr h) = last h.0 h.1 h.2
