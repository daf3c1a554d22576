-- Where a mode has more edges than there is room for, the block type has more than may be.
use Rattle.std.proofs.Common.{◌≡◌, ◌+◌, ◌<◌, ℕ, zero, suc, List, [], ◌∷◌, ◌++◌, Some, length, slice_get, refl, ap, subst, arith, length-append}
use Rattle.std.proofs.lemmas.Option.{slice_get_within}
use Rattle.arch_types.specs.declared.block.PbType.{PbType}
use Rattle.arch_types.specs.declared.block.Mode.{Mode}
use Rattle.arch_types.specs.Tree.{modes_of}
use Rattle.arch_types.specs.Address.{Address}
use Rattle.mode_edges.specs.declared.pin.LocalEdge.{LocalEdge}
use Rattle.mode_edges.specs.Edges.{AreEdges}
use Rattle.pb_expand.specs.declared.number.Edge.{Edge}
use Rattle.pb_expand.specs.declared.number.PinAt.{PinAt}
use Rattle.pb_expand.specs.declared.number.Step.{Step}
use Rattle.pb_expand.specs.Rows.{addresses, IsTree}
use Rattle.pb_expand.specs.Making.{AreParts, AreBefore, AddsPlaced, AreMore, HavePlaces, IsPlaced, edge_at}
use Rattle.pb_expand.proofs.Lists.{element}
use Rattle.pb_expand.proofs.PinPlaces.{place_stands}
use Rattle.pb_expand.proofs.Batch.{batch}

-- local edges with their places, one by one
record ArePlaced (rows : List Step) (pins : List PinAt) (owner mode : ℕ) (local : List LocalEdge) : Type 0 where
  more : List Edge
  all : length more ≡ length local
  placed : (k : ℕ) (l : LocalEdge) (e : Edge) → slice_get local k ≡ Some l → slice_get more k ≡ Some e → IsPlaced (addresses rows) pins owner mode l e

places_behind : (rows : List Step) (pins : List PinAt) (owner mode : ℕ) (l : LocalEdge) (local : List LocalEdge) → HavePlaces rows pins owner mode (l ∷ local) →
    HavePlaces rows pins owner mode local
places_behind rows pins owner mode l local have = record { src = λ k x at. have.src (suc k) x at; dst = λ k x at. have.dst (suc k) x at }

place_all : (rows : List Step) (pins : List PinAt) (owner mode : ℕ) (local : List LocalEdge) → IsTree rows → HavePlaces rows pins owner mode local →
    ArePlaced rows pins owner mode local
place_all rows pins owner mode [] tree have = record { more = []; all = refl; placed = λ k l e at_l at_e. absurd (cc) }
place_all rows pins owner mode (l ∷ local) tree have =
    let rest = place_all rows pins owner mode local tree (places_behind rows pins owner mode l local have) in
    let src = place_stands rows pins owner mode l.src tree (have.src 0 l refl) in
    let dst = place_stands rows pins owner mode l.dst tree (have.dst 0 l refl) in
    let first = edge_at src.0 dst.0 owner mode l.inter in
    let here : IsPlaced (addresses rows) pins owner mode l first = record { src = src.0; dst = dst.0; is = refl; at_src = src.1; at_dst = dst.1 } in
    record { more = first ∷ rest.more; all = ap suc rest.all; placed = by first here rest }
  where
    by : (first : Edge) → IsPlaced (addresses rows) pins owner mode l first → (rest : ArePlaced rows pins owner mode local) →
        (k : ℕ) (x : LocalEdge) (e : Edge) → slice_get (l ∷ local) k ≡ Some x → slice_get (first ∷ rest.more) k ≡ Some e → IsPlaced (addresses rows) pins owner mode x e
    by first here rest zero x e at_x at_e =
        let same_l : l ≡ x = cc in
        let same_e : first ≡ e = cc in
        subst (λ y. IsPlaced (addresses rows) pins owner mode y e) same_l (subst (λ f. IsPlaced (addresses rows) pins owner mode l f) same_e here)
    by first here rest (suc k) x e at_x at_e = rest.placed k x e at_x at_e

pub too_many : (blocks : List PbType) (rows : List Step) (pins : List PinAt) (n m : ℕ) (block : PbType) (mode : Mode) (local : List LocalEdge) (old : List Edge) →
    AreParts blocks rows pins → slice_get blocks n ≡ Some block → slice_get (modes_of block.kind) m ≡ Some mode → AreEdges block mode local →
    AreBefore blocks (addresses rows) pins n m old → 4194304 < length old + length local → AreMore blocks (addresses rows) pins 4194304
too_many blocks rows pins n m block mode local old parts at_n at_m are before more =
    let placed = place_all rows pins n m local parts.numbered.tree (parts.places n m block mode local at_n at_m are) in
    let address = element (addresses rows) n (omega (arith, slice_get_within blocks n block at_n, parts.all_addresses)) in
    let adds : AddsPlaced (addresses rows) pins n m local old (old ++ placed.more) = record { more = placed.more; is = refl; all = placed.all; placed = placed.placed } in
    let after = batch blocks (addresses rows) pins n m block address.0 mode local old (old ++ placed.more) parts.numbered.once_instances parts.numbered.once_pins at_n address.1 at_m are adds before in
    record {
      edges = old ++ placed.more;
      each = λ e has. (after.each e has).0;
      once = λ i j e at_i at_j. after.once i j e e at_i at_j refl refl refl refl;
      more = omega (arith, length-append old placed.more, placed.all);
    }

pub adds_length : (instances : List Address) (pins : List PinAt) (owner mode : ℕ) (local : List LocalEdge) (old new : List Edge) →
    AddsPlaced instances pins owner mode local old new → length new ≡ length old + length local
adds_length instances pins owner mode local old new adds = omega (arith, ap length adds.is, length-append old adds.more, adds.all)
