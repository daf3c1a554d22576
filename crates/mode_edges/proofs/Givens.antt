-- What an interconnect gives, in order and with the places from which it is given.
use Rattle.std.proofs.Common.{◌≡◌, ◌+◌, inl, inr, ℕ, zero, suc, List, [], ◌∷◌, ◌++◌, Some, slice_get, refl, sym, ◌∙◌, ap, subst, arith}
use Rattle.std.proofs.lemmas.List.{map-append}
use Rattle.vtr_base.specs.Lists.{Has}
use Rattle.arch_types.specs.declared.block.InterKind.{InterKind}
use Rattle.arch_types.specs.declared.block.InterKind.TheVariants.{Direct, Complete, Mux}
use Rattle.mode_edges.specs.declared.pin.LocalPin.{LocalPin}
use Rattle.mode_edges.specs.declared.pin.LocalEdge.{LocalEdge}
use Rattle.mode_edges.specs.Edges.{IsPairFrom, IsPairTo}
use Rattle.mode_edges.specs.Pairs.{row, rows, side_by_side, given_by}
use Rattle.mode_edges.proofs.Gathering.{edge}
use Rattle.mode_edges.proofs.Kept.{Given, edges_at, InOrder, has_at, has_left, has_right, has_split, in_order_both}

abbrev pub given : ℕ → ℕ → ℕ → LocalPin → LocalPin → Given
given inter source end s d = record { edge = edge inter s d; source = source; end = end }

abbrev direct : ℕ → ℕ → List LocalPin → List LocalPin → List Given
direct inter k [] outs = []
direct inter k (i ∷ ins) [] = []
direct inter k (i ∷ ins) (o ∷ outs) = given inter k k i o ∷ direct inter (k + 1) ins outs

abbrev from_one : ℕ → ℕ → LocalPin → ℕ → List LocalPin → List Given
from_one inter k src j [] = []
from_one inter k src j (o ∷ outs) = given inter k j src o ∷ from_one inter k src (j + 1) outs

abbrev complete : ℕ → ℕ → List LocalPin → List LocalPin → List Given
complete inter k [] outs = []
complete inter k (i ∷ ins) outs = from_one inter k i 0 outs ++ complete inter (k + 1) ins outs

abbrev pub givens : InterKind → ℕ → List LocalPin → List LocalPin → List Given
givens Direct inter ins outs = direct inter 0 ins outs
givens Complete inter ins outs = complete inter 0 ins outs
givens Mux inter ins outs = complete inter 0 ins outs

direct_edges : (inter k : ℕ) (ins outs : List LocalPin) → edges_at (direct inter k ins outs) ≡ side_by_side inter ins outs
direct_edges inter k [] outs = refl
direct_edges inter k (i ∷ ins) [] = refl
direct_edges inter k (i ∷ ins) (o ∷ outs) = ap (λ (l : List LocalEdge). edge inter i o ∷ l) (direct_edges inter (k + 1) ins outs)

one_edges : (inter k j : ℕ) (src : LocalPin) (outs : List LocalPin) → edges_at (from_one inter k src j outs) ≡ row inter src outs
one_edges inter k j src [] = refl
one_edges inter k j src (o ∷ outs) = ap (λ (l : List LocalEdge). edge inter src o ∷ l) (one_edges inter k (j + 1) src outs)

complete_edges : (inter k : ℕ) (ins outs : List LocalPin) → edges_at (complete inter k ins outs) ≡ rows inter ins outs
complete_edges inter k [] outs = refl
complete_edges inter k (i ∷ ins) outs =
    map-append (λ (g : Given). g.edge) (from_one inter k i 0 outs) (complete inter (k + 1) ins outs)
    ∙ (ap (λ (l : List LocalEdge). l ++ edges_at (complete inter (k + 1) ins outs)) (one_edges inter k 0 i outs)
    ∙ ap (λ (l : List LocalEdge). row inter i outs ++ l) (complete_edges inter (k + 1) ins outs))

pub givens_edges : (kind : InterKind) (inter : ℕ) (ins outs : List LocalPin) → edges_at (givens kind inter ins outs) ≡ given_by kind inter ins outs
givens_edges Direct inter ins outs = direct_edges inter 0 ins outs
givens_edges Complete inter ins outs = complete_edges inter 0 ins outs
givens_edges Mux inter ins outs = complete_edges inter 0 ins outs

-- where one of them comes from
record IsDirect (inter k : ℕ) (ins outs : List LocalPin) (g : Given) : Type 0 where
  at : ℕ
  place : g.source ≡ k + at
  beside : g.end ≡ g.source
  owner : g.edge.inter ≡ inter
  source : slice_get ins at ≡ Some g.edge.src
  end : slice_get outs at ≡ Some g.edge.dst

direct_has : (inter k : ℕ) (ins outs : List LocalPin) (g : Given) → Has (direct inter k ins outs) g → IsDirect inter k ins outs g
direct_has inter k [] outs g h = absurd h
direct_has inter k (i ∷ ins) [] g h = absurd h
direct_has inter k (i ∷ ins) (o ∷ outs) g (inl is) =
    let place : g.source ≡ k = ap (λ (x : Given). x.source) is in
    record {
      at = 0;
      place = omega arith;
      beside = ap (λ (x : Given). x.end) is ∙ sym place;
      owner = ap (λ (x : Given). x.edge.inter) is;
      source = ap Some (sym (ap (λ (x : Given). x.edge.src) is));
      end = ap Some (sym (ap (λ (x : Given). x.edge.dst) is));
    }
direct_has inter k (i ∷ ins) (o ∷ outs) g (inr h) =
    let more = direct_has inter (k + 1) ins outs g h in
    let place = more.place in
    record { at = suc more.at; place = omega (arith, place); beside = more.beside; owner = more.owner; source = more.source; end = more.end }

direct_all : (inter k m : ℕ) (ins outs : List LocalPin) (s d : LocalPin) → slice_get ins m ≡ Some s → slice_get outs m ≡ Some d →
    Has (direct inter k ins outs) (given inter (k + m) (k + m) s d)
direct_all inter k m [] outs s d at_s at_d = cc
direct_all inter k m (i ∷ ins) [] s d at_s at_d = cc
direct_all inter k zero (i ∷ ins) (o ∷ outs) s d at_s at_d =
    let source : s ≡ i = cc in
    let end : d ≡ o = cc in
    let place : k + 0 ≡ k = omega arith in
    inl (ap (λ (p : ℕ). given inter p p s d) place ∙ (ap (λ (x : LocalPin). given inter k k x d) source ∙ ap (given inter k k i) end))
direct_all inter k (suc m) (i ∷ ins) (o ∷ outs) s d at_s at_d =
    let place : (k + 1) + m ≡ k + suc m = omega arith in
    inr (subst (λ (p : ℕ). Has (direct inter (k + 1) ins outs) (given inter p p s d)) place (direct_all inter (k + 1) m ins outs s d at_s at_d))

direct_order : (inter k : ℕ) (ins outs : List LocalPin) → InOrder (direct inter k ins outs)
direct_order inter k [] outs = tt
direct_order inter k (i ∷ ins) [] = tt
direct_order inter k (i ∷ ins) (o ∷ outs) = (
  λ h there.
      let d = direct_has inter (k + 1) ins outs h there in
      let place = d.place in
      inr (sym d.owner, inl (omega (arith, place))),
  direct_order inter (k + 1) ins outs,
)

record IsFromOne (inter k : ℕ) (src : LocalPin) (j : ℕ) (outs : List LocalPin) (g : Given) : Type 0 where
  at : ℕ
  place : g.source ≡ k
  to : g.end ≡ j + at
  owner : g.edge.inter ≡ inter
  source : g.edge.src ≡ src
  end : slice_get outs at ≡ Some g.edge.dst

one_has : (inter k : ℕ) (src : LocalPin) (j : ℕ) (outs : List LocalPin) (g : Given) → Has (from_one inter k src j outs) g → IsFromOne inter k src j outs g
one_has inter k src j [] g h = absurd h
one_has inter k src j (o ∷ outs) g (inl is) =
    let to : g.end ≡ j = ap (λ (x : Given). x.end) is in
    record {
      at = 0;
      place = ap (λ (x : Given). x.source) is;
      to = omega arith;
      owner = ap (λ (x : Given). x.edge.inter) is;
      source = ap (λ (x : Given). x.edge.src) is;
      end = ap Some (sym (ap (λ (x : Given). x.edge.dst) is));
    }
one_has inter k src j (o ∷ outs) g (inr h) =
    let more = one_has inter k src (j + 1) outs g h in
    let to = more.to in
    record { at = suc more.at; place = more.place; to = omega (arith, to); owner = more.owner; source = more.source; end = more.end }

one_all : (inter k : ℕ) (src : LocalPin) (j n : ℕ) (outs : List LocalPin) (d : LocalPin) → slice_get outs n ≡ Some d →
    Has (from_one inter k src j outs) (given inter k (j + n) src d)
one_all inter k src j n [] d at = cc
one_all inter k src j zero (o ∷ outs) d at =
    let end : d ≡ o = cc in
    let place : j + 0 ≡ j = omega arith in
    inl (ap (λ (p : ℕ). given inter k p src d) place ∙ ap (given inter k j src) end)
one_all inter k src j (suc n) (o ∷ outs) d at =
    let place : (j + 1) + n ≡ j + suc n = omega arith in
    inr (subst (λ (p : ℕ). Has (from_one inter k src (j + 1) outs) (given inter k p src d)) place (one_all inter k src (j + 1) n outs d at))

one_order : (inter k : ℕ) (src : LocalPin) (j : ℕ) (outs : List LocalPin) → InOrder (from_one inter k src j outs)
one_order inter k src j [] = tt
one_order inter k src j (o ∷ outs) = (
  λ h there.
      let d = one_has inter k src (j + 1) outs h there in
      let to = d.to in
      inr (sym d.owner, inr (sym d.place, omega (arith, to))),
  one_order inter k src (j + 1) outs,
)

record IsComplete (inter k : ℕ) (ins outs : List LocalPin) (g : Given) : Type 0 where
  at : ℕ
  place : g.source ≡ k + at
  owner : g.edge.inter ≡ inter
  source : slice_get ins at ≡ Some g.edge.src
  end : slice_get outs g.end ≡ Some g.edge.dst

complete_has : (inter k : ℕ) (ins outs : List LocalPin) (g : Given) → Has (complete inter k ins outs) g → IsComplete inter k ins outs g
complete_has inter k [] outs g h = absurd h
complete_has inter k (i ∷ ins) outs g h =
    elim (has_split (from_one inter k i 0 outs) (complete inter (k + 1) ins outs) g h) [
      | inl first ↦
          let o = one_has inter k i 0 outs g first in
          let place = o.place in
          let to = o.to in
          let end : o.at ≡ g.end = omega (arith, to) in
          record {
            at = 0;
            place = omega (arith, place);
            owner = o.owner;
            source = ap Some (sym o.source);
            end = subst (λ (n : ℕ). slice_get outs n ≡ Some g.edge.dst) end o.end;
          }
      | inr later ↦
          let more = complete_has inter (k + 1) ins outs g later in
          let place = more.place in
          record { at = suc more.at; place = omega (arith, place); owner = more.owner; source = more.source; end = more.end }
    ]

complete_all : (inter k m n : ℕ) (ins outs : List LocalPin) (s d : LocalPin) → slice_get ins m ≡ Some s → slice_get outs n ≡ Some d →
    Has (complete inter k ins outs) (given inter (k + m) n s d)
complete_all inter k m n [] outs s d at_s at_d = cc
complete_all inter k zero n (i ∷ ins) outs s d at_s at_d =
    let source : i ≡ s = cc in
    let place : k ≡ k + 0 = omega arith in
    let end : 0 + n ≡ n = omega arith in
    has_left (from_one inter k i 0 outs) (complete inter (k + 1) ins outs) (given inter (k + 0) n s d)
    (subst (λ (p : ℕ). Has (from_one inter k i 0 outs) (given inter p n s d)) place
    (subst (λ (x : LocalPin). Has (from_one inter k i 0 outs) (given inter k n x d)) source
    (subst (λ (p : ℕ). Has (from_one inter k i 0 outs) (given inter k p i d)) end (one_all inter k i 0 n outs d at_d))))
complete_all inter k (suc m) n (i ∷ ins) outs s d at_s at_d =
    let place : (k + 1) + m ≡ k + suc m = omega arith in
    has_right (from_one inter k i 0 outs) (complete inter (k + 1) ins outs) (given inter (k + suc m) n s d)
    (subst (λ (p : ℕ). Has (complete inter (k + 1) ins outs) (given inter p n s d)) place (complete_all inter (k + 1) m n ins outs s d at_s at_d))

complete_order : (inter k : ℕ) (ins outs : List LocalPin) → InOrder (complete inter k ins outs)
complete_order inter k [] outs = tt
complete_order inter k (i ∷ ins) outs =
    in_order_both (from_one inter k i 0 outs) (complete inter (k + 1) ins outs) (one_order inter k i 0 outs) (complete_order inter (k + 1) ins outs)
    (λ x y in_first in_later.
    let o = one_has inter k i 0 outs x in_first in
    let c = complete_has inter (k + 1) ins outs y in_later in
    let first = o.place in
    let later = c.place in
    inr (o.owner ∙ sym c.owner, inl (omega (arith, first, later))))

pub givens_order : (kind : InterKind) (inter : ℕ) (ins outs : List LocalPin) → InOrder (givens kind inter ins outs)
givens_order Direct inter ins outs = direct_order inter 0 ins outs
givens_order Complete inter ins outs = complete_order inter 0 ins outs
givens_order Mux inter ins outs = complete_order inter 0 ins outs

-- a pair of a kind of interconnect, from one place to another
pub record IsPairAt (kind : InterKind) (ins outs : List LocalPin) (source end : ℕ) (s d : LocalPin) : Type 0 where
  pub from : IsPairFrom kind ins outs source s d
  pub to : IsPairTo kind outs source end d

complete_pair : (inter : ℕ) (ins outs : List LocalPin) (g : Given) → Has (complete inter 0 ins outs) g →
    (g.edge.inter ≡ inter) × (slice_get ins g.source ≡ Some g.edge.src) × (slice_get outs g.end ≡ Some g.edge.dst)
complete_pair inter ins outs g h =
    let c = complete_has inter 0 ins outs g h in
    let place = c.place in
    let at : c.at ≡ g.source = omega (arith, place) in
    (c.owner, subst (λ (n : ℕ). slice_get ins n ≡ Some g.edge.src) at c.source, c.end)

-- each of them is a pair at its places, owned by the interconnect
pub givens_has : (kind : InterKind) (inter : ℕ) (ins outs : List LocalPin) (g : Given) → Has (givens kind inter ins outs) g →
    (g.edge.inter ≡ inter) × IsPairAt kind ins outs g.source g.end g.edge.src g.edge.dst
givens_has Direct inter ins outs g h =
    let d = direct_has inter 0 ins outs g h in
    let place = d.place in
    let at : d.at ≡ g.source = omega (arith, place) in (
      d.owner,
      record {
        from = (subst (λ (n : ℕ). slice_get ins n ≡ Some g.edge.src) at d.source, subst (λ (n : ℕ). slice_get outs n ≡ Some g.edge.dst) at d.end);
        to = d.beside;
      },
    )
givens_has Complete inter ins outs g h =
    let c = complete_pair inter ins outs g h in (c.0, record { from = (c.1, has_at outs g.end g.edge.dst c.2); to = c.2 })
givens_has Mux inter ins outs g h =
    let c = complete_pair inter ins outs g h in (c.0, record { from = (c.1, has_at outs g.end g.edge.dst c.2); to = c.2 })

-- and they are all of these
pub givens_all : (kind : InterKind) (inter source end : ℕ) (ins outs : List LocalPin) (s d : LocalPin) → IsPairAt kind ins outs source end s d →
    Has (givens kind inter ins outs) (given inter source end s d)
givens_all Direct inter source end ins outs s d pair =
    let from : 0 + source ≡ source = omega arith in
    subst (λ (p : ℕ). Has (direct inter 0 ins outs) (given inter source p s d)) (sym pair.to)
    (subst (λ (p : ℕ). Has (direct inter 0 ins outs) (given inter p p s d)) from (direct_all inter 0 source ins outs s d pair.from.0 pair.from.1))
givens_all Complete inter source end ins outs s d pair =
    let from : 0 + source ≡ source = omega arith in
    subst (λ (p : ℕ). Has (complete inter 0 ins outs) (given inter p end s d)) from (complete_all inter 0 source end ins outs s d pair.from.0 pair.to)
givens_all Mux inter source end ins outs s d pair =
    let from : 0 + source ≡ source = omega arith in
    subst (λ (p : ℕ). Has (complete inter 0 ins outs) (given inter p end s d)) from (complete_all inter 0 source end ins outs s d pair.from.0 pair.to)
