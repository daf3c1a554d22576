-- Pins in a mode with an edge into them.
use Rattle.std.proofs.Common.{◌≡◌, ◌<◌, ℕ, Some, None, Option, List, [], ◌∷◌, length, slice_get, sym, ap, ◌∙◌, subst}
use Rattle.std.proofs.lemmas.Option.{slice_get_within}
use Rattle.vtr_base.specs.Lists.{Has}
use Rattle.list_laws.proofs.Members.{has_at}
use Rattle.pb_expand.specs.declared.number.Edge.{Edge}
use Rattle.pb_expand.specs.declared.number.EdgeIx.{EdgeIx}
use Rattle.pb_expand.specs.Graph.{Graph, pin_ix, edge_ix, into_from}
use Rattle.pb_expand.specs.Ends.{ListsEnds}
use Rattle.pb_expand.specs.Expansion.{IsExpansion}
use Rattle.pb_expand.specs.OneOwner.{HasOneOwner}
use Rattle.prog_map.specs.Choices.{IsEdgeInto}
use Rattle.prog_map.specs.Live.{IsLiveAt, IsLivePin}

some_same : {X : Type 0} {x y : X} → Some x ≡ Some y → x ≡ y
some_same e = cc

pub pin_inside : (g : Graph) (pin mode number : ℕ) → IsExpansion g → IsEdgeInto g pin mode number → pin < length g.pins
pin_inside g pin mode number law into =
    let of = law.has_edges.each into.edge (has_at g.edges number into.edge into.there) in
    subst (λ n. n < length g.pins) into.ends (slice_get_within g.pins into.edge.dst.0 _ of.is_dst.is_pin)

pub edge_inside : (g : Graph) (pin mode number : ℕ) → IsEdgeInto g pin mode number → number < length g.edges
edge_inside g pin mode number into = slice_get_within g.edges number into.edge into.there

-- what the first of the listed edges is
pub none_into : (g : Graph) (pin mode : ℕ) (list : List EdgeIx) → ListsEnds g → list ≡ into_from 0 g.edges pin mode → slice_get list 0 ≡ None → (number : ℕ) → IsEdgeInto g pin mode number → ⊥
none_into g pin mode list lists is none number into = by list (subst (λ xs. Has xs (edge_ix number)) (sym is) (((lists pin mode).exact number).1 (into.edge, into.there, (into.ends, into.in_mode)))) none
  where
    by : (xs : List EdgeIx) → Has xs (edge_ix number) → slice_get xs 0 ≡ None → ⊥
    by [] has e = has
    by (x ∷ xs) has e = cc

pub first_into_is : (g : Graph) (pin mode : ℕ) (list : List EdgeIx) (first : EdgeIx) → ListsEnds g → list ≡ into_from 0 g.edges pin mode → slice_get list 0 ≡ Some first → IsEdgeInto g pin mode first.0
first_into_is g pin mode list first lists is at =
    let has = has_at (into_from 0 g.edges pin mode) 0 first (ap (λ xs. slice_get xs 0) (sym is) ∙ at) in
    let found = ((lists pin mode).exact first.0).0 has in
    record { edge = found.0; there = found.1; ends = found.2.0; in_mode = found.2.1 }

-- the owner of one edge into a pin is that of all
pub live_to : (g : Graph) (modes : ℕ → Option ℕ) (pin mode number : ℕ) (edge : Edge) → IsEdgeInto g pin mode number → slice_get g.edges number ≡ Some edge →
    modes edge.owner.0 ≡ Some edge.mode → IsLiveAt g modes edge.owner.0 → IsLivePin g modes pin mode
live_to g modes pin mode number edge into is chosen live =
    let same : edge ≡ into.edge = some_same (sym is ∙ into.there) in
    record {
      number = number;
      into = into;
      live = subst (λ (e : Edge). IsLiveAt g modes e.owner.0) same live;
      chosen = ap (λ (e : Edge). modes e.owner.0) (sym same) ∙ chosen ∙ ap (λ (e : Edge). Some e.mode) same ∙ ap Some into.in_mode;
    }

pub live_from : (g : Graph) (modes : ℕ → Option ℕ) (pin mode number : ℕ) (edge : Edge) → HasOneOwner g → IsEdgeInto g pin mode number → slice_get g.edges number ≡ Some edge →
    IsLivePin g modes pin mode → (modes edge.owner.0 ≡ Some edge.mode) × IsLiveAt g modes edge.owner.0
live_from g modes pin mode number edge owners into is live =
    let same : edge ≡ into.edge = some_same (sym is ∙ into.there) in
    let dst : live.into.edge.dst ≡ edge.dst = ap pin_ix (live.into.ends ∙ sym into.ends ∙ ap (λ (e : Edge). e.dst.0) (sym same)) in
    let owner = owners.one live.into.edge edge (has_at g.edges live.number live.into.edge live.into.there) (has_at g.edges number edge is) dst in (
      ap (λ o. modes o.0) (sym owner) ∙ live.chosen ∙ ap Some (sym into.in_mode) ∙ ap (λ (e : Edge). Some e.mode) (sym same),
      subst (λ o. IsLiveAt g modes o.0) owner live.live,
    )
