-- Edges into a pin that are looked for by the name of their mode and by their source.
use Rattle.std.proofs.Common.{◌≡◌, ◌<◌, ◌+◌, ◌⊎◌, ◌==◌, ◌&&◌, if◌then◌else◌, inl, inr, ℕ, zero, suc, Bool, true, false, List, [], ◌∷◌, length, Option, Some, None, ◌↔◌, refl, sym, ap, ◌∙◌, subst, arith}
use Rattle.std.specs.Prelude.{slice_get, MatchOption, IsTrue}
use Rattle.std.proofs.lemmas.Bool.Decides.{nat_tests}
use Rattle.std.proofs.lemmas.Bool.{cases_eq}
use Rattle.std.proofs.lemmas.Option.{slice_get_within}
use Rattle.vtr_base.specs.Lists.{Has}
use Rattle.arch_types.specs.Address.{Address, Hop}
use Rattle.mode_edges.specs.declared.pin.ChildAt.{ChildAt}
use Rattle.pb_expand.specs.declared.number.PinIx.{PinIx}
use Rattle.pb_expand.specs.declared.number.EdgeIx.{EdgeIx}
use Rattle.pb_expand.specs.declared.number.Step.{Step}
use Rattle.pb_expand.specs.declared.number.PinAt.{PinAt}
use Rattle.pb_expand.specs.declared.number.Edge.{Edge}
use Rattle.pb_expand.specs.Graph.{Graph, LeadsTo, hop_of, into_from, edge_ix, pin_at, mode_at}
use Rattle.pb_expand.specs.Expansion.{IsExpansion, IsEdgeOf, owner_address}
use Rattle.pb_expand.proofs.Lists.{has_at, at_has, snoc_last}
use Rattle.prog_text.specs.Names.{NamesMode}
use Rattle.prog_text.specs.NamedEdges.{IsNamedEdge, IsEdgeWanted, IsEdgeIn}
use Rattle.prog_map.proofs.Climbs.{some_injective}
use Rattle.prog_map.proofs.Owners.{IsAbove, root_alone, owner_of_end, parent_is}
use Rattle.prog_text.specs.Plain.{HasPlainNames}
use Rattle.prog_text.proofs.OneName.{one_mode}
use Rattle.std.specs.Option.{option_map}
use Rattle.arch_types.specs.declared.block.Mode.{Mode}
use Rattle.arch_types.specs.Tree.{name_of_mode}

-- an edge stands among those into its end in its mode
pub into_there : (n k : ℕ) (es : List Edge) (e : Edge) (pin mode : ℕ) → slice_get es k ≡ Some e → e.dst.0 ≡ pin → e.mode ≡ mode →
    (place : ℕ) × (slice_get (into_from n es pin mode) place ≡ Some (edge_ix (n + k)))
into_there n k [] e pin mode is ends in_mode = cc
into_there n zero (x ∷ es) e pin mode is ends in_mode =
    let same : x ≡ e = cc in
    let dst : x.dst.0 ≡ pin = ap (λ (y : Edge). y.dst.0) same ∙ ends in
    let at_mode : x.mode ≡ mode = ap (λ (y : Edge). y.mode) same ∙ in_mode in
    let here : ((x.dst.0 == pin) && (x.mode == mode)) ≡ true = grind (arith, nat_tests) in
    let first : n + 0 ≡ n = omega arith in (
      0,
      ap (λ b. slice_get (if b then edge_ix n ∷ into_from (n + 1) es pin mode else into_from (n + 1) es pin mode) 0) here
          ∙ ap (λ j. Some (edge_ix j)) (sym first),
    )
into_there n (suc k) (x ∷ es) e pin mode is ends in_mode =
    let there : slice_get es k ≡ Some e = is in
    by ((x.dst.0 == pin) && (x.mode == mode)) (into_there (n + 1) k es e pin mode there ends in_mode)
  where
    by : (b : Bool) → (place : ℕ) × (slice_get (into_from (n + 1) es pin mode) place ≡ Some (edge_ix ((n + 1) + k))) →
        (place : ℕ) × (slice_get (if b then edge_ix n ∷ into_from (n + 1) es pin mode else into_from (n + 1) es pin mode) place ≡ Some (edge_ix (n + suc k)))
    by true rest =
        let number : (n + 1) + k ≡ n + suc k = omega arith in (suc rest.0, rest.1 ∙ ap (λ j. Some (edge_ix j)) number)
    by false rest =
        let number : (n + 1) + k ≡ n + suc k = omega arith in (rest.0, rest.1 ∙ ap (λ j. Some (edge_ix j)) number)

-- none of the first edges into the pin is looked for
abbrev pub NoneIn : Graph → List EdgeIx → ℕ → ℕ → ℕ → ℕ → Option PinIx → Type 0
NoneIn g edges count pin owner mode wanted = (j : ℕ) (e : EdgeIx) → j < count → slice_get edges j ≡ Some e → IsEdgeIn g e.0 pin owner mode wanted → ⊥

-- so none of a mode is, where all of it were looked at
pub none_in_mode : (g : Graph) (edges : List EdgeIx) (count pin owner mode : ℕ) (wanted : Option PinIx) → edges ≡ into_from 0 g.edges pin mode →
    (count < length edges → ⊥) → NoneIn g edges count pin owner mode wanted → (edge : ℕ) → IsEdgeIn g edge pin owner mode wanted → ⊥
none_in_mode g edges count pin owner mode wanted are all none edge is =
    let found = into_there 0 edge g.edges is.edge pin mode is.is is.ends is.in_mode in
    let number : 0 + edge ≡ edge = omega arith in
    let there : slice_get edges found.0 ≡ Some (edge_ix edge) = ap (λ es. slice_get es found.0) are ∙ found.1 ∙ ap (λ k. Some (edge_ix k)) number in
    let inside : found.0 < length edges = slice_get_within edges found.0 (edge_ix edge) there in
    none found.0 (edge_ix edge) (omega (arith, inside, all)) there is

-- an edge that isn't owned by the pin's own instance stands in the mode in which that instance does
pub mode_above : (g : Graph) → IsExpansion g → (number : ℕ) (edge : Edge) → slice_get g.edges number ≡ Some edge → (at : PinAt) →
    slice_get g.pins edge.dst.0 ≡ Some at → (s : Step) → LeadsTo g.instances s at.pb.0 → (edge.owner.0 ≡ at.pb.0) ⊎ (edge.mode ≡ s.mode)
mode_above g law number edge there at is_at s to =
    let e : IsEdgeOf g edge = law.has_edges.each edge (has_at g.edges number edge there) in
    let same : pin_at e.is_dst.pb e.dst.port e.dst.bit ≡ at = some_injective (sym e.is_dst.is_pin ∙ is_at) in
    let pb : e.is_dst.pb ≡ at.pb.0 = ap (λ (p : PinAt). p.pb.0) same in
    by e.dst.owner e.address e.is_owner
    (subst (λ n. slice_get g.instances n ≡ Some (owner_address e.address edge.mode e.dst.owner)) pb e.is_dst.is_instance)
  where
    by : (child : Option ChildAt) (address : Address) → slice_get g.instances edge.owner.0 ≡ Some address →
        slice_get g.instances at.pb.0 ≡ Some (owner_address address edge.mode child) → (edge.owner.0 ≡ at.pb.0) ⊎ (edge.mode ≡ s.mode)
    by None address is_owner is = inl (law.numbering.once edge.owner.0 at.pb.0 address is_owner is)
    by (Some c) address is_owner is =
        let hop : Hop = record { mode = edge.mode; child = c.child; instance = c.instance } in
        let last : hop ≡ hop_of s = snoc_last address to.parent hop (hop_of s) (some_injective (sym is ∙ to.is_child)) in
        inr (ap (λ (h : Hop). h.mode) last)

abbrev NoneOwn : Graph → ℕ → List ℕ → Option PinIx → ℕ → Type 0
NoneOwn g pin name wanted pb = (edge : ℕ) (is : IsEdgeWanted g edge pin name wanted) → is.edge.owner.0 ≡ pb → ⊥

-- the instance has no mode of that name
pub no_own_mode : (g : Graph) (pb pin : ℕ) (name : List ℕ) (wanted : Option PinIx) → ((mode : ℕ) → NamesMode g pb name mode → ⊥) → NoneOwn g pin name wanted pb
no_own_mode g pb pin name wanted none edge is own = none is.edge.mode (subst (λ n. NamesMode g n name is.edge.mode) own is.named.is_mode)

-- an edge of a mode of that name
pub edge_in_mode : (g : Graph) (edge pin owner mode : ℕ) (name : List ℕ) (wanted : Option PinIx) → NamesMode g owner name mode → IsEdgeIn g edge pin owner mode wanted →
    IsEdgeWanted g edge pin name wanted
edge_in_mode g edge pin owner mode name wanted names is = record {
  edge = is.edge;
  named = record {
    is = is.is;
    ends = is.ends;
    starts = refl;
    is_mode = subst (λ n. NamesMode g n name is.edge.mode) (sym is.owned) (subst (λ m. NamesMode g owner name m) (sym is.in_mode) names);
  };
  comes = is.comes;
}

-- what the edges of one mode say of the instance's own edges
pub own_by_mode : (g : Graph) (pb pin mode : ℕ) (name : List ℕ) (wanted : Option PinIx) → HasPlainNames g.root → NamesMode g pb name mode → (r : Option EdgeIx) →
    MatchOption r ((edge : ℕ) → IsEdgeIn g edge pin pb mode wanted → ⊥) (λ edge. IsEdgeIn g edge.0 pin pb mode wanted) →
    MatchOption r (NoneOwn g pin name wanted pb) (λ edge. IsEdgeWanted g edge.0 pin name wanted)
own_by_mode g pb pin mode name wanted plain names None none = λ edge is own.
    let in_mode : is.edge.mode ≡ mode =
    one_mode g plain pb name is.edge.mode mode (subst (λ n. NamesMode g n name is.edge.mode) own is.named.is_mode) names in
    none edge (record { edge = is.edge; is = is.named.is; ends = is.named.ends; owned = own; in_mode = in_mode; comes = is.comes })
own_by_mode g pb pin mode name wanted plain names (Some edge) is = edge_in_mode g edge.0 pin pb mode name wanted names is

-- an edge that the pin's own instance doesn't own is of its parent's mode
by_parent : (g : Graph) → IsExpansion g → (pin : ℕ) (name : List ℕ) (wanted : Option PinIx) (at : PinAt) (s : Step) → slice_get g.pins pin ≡ Some at →
    LeadsTo g.instances s at.pb.0 → NoneOwn g pin name wanted at.pb.0 → (edge : ℕ) → IsEdgeWanted g edge pin name wanted → IsEdgeIn g edge pin s.parent.0 s.mode wanted
by_parent g law pin name wanted at s is_at to own edge is =
    let is_end : slice_get g.pins is.edge.dst.0 ≡ Some at = ap (λ k. slice_get g.pins k) is.named.ends ∙ is_at in
    by (owner_of_end g law edge is.edge is.named.is at is_end) (mode_above g law edge is.edge is.named.is at is_end s to)
  where
    by : (is.edge.owner.0 ≡ at.pb.0) ⊎ IsAbove g is.edge.owner.0 at.pb.0 → (is.edge.owner.0 ≡ at.pb.0) ⊎ (is.edge.mode ≡ s.mode) → IsEdgeIn g edge pin s.parent.0 s.mode wanted
    by (inl here) mode = absurd (own edge is here)
    by (inr up) (inl here) = absurd (own edge is here)
    by (inr up) (inr in_mode) = record {
      edge = is.edge;
      is = is.named.is;
      ends = is.named.ends;
      owned = parent_is g is.edge.owner.0 at.pb.0 s law to up;
      in_mode = in_mode;
      comes = is.comes;
    }

-- a mode whose name was read
named_by : (g : Graph) (pb mode : ℕ) (name : List ℕ) → option_map name_of_mode (mode_at g pb mode) ≡ Some name → NamesMode g pb name mode
named_by g pb mode name read = by (mode_at g pb mode) refl read
  where
    by : (o : Option Mode) → mode_at g pb mode ≡ o → option_map name_of_mode o ≡ Some name → NamesMode g pb name mode
    by None e read = absurd (cc)
    by (Some m) e read = record { is = m; there = e; spelled = sym (some_injective read) }

-- the parent's mode has another name
pub other_above : (g : Graph) → IsExpansion g → (pin : ℕ) (name read : List ℕ) (wanted : Option PinIx) (at : PinAt) (s : Step) → slice_get g.pins pin ≡ Some at →
    LeadsTo g.instances s at.pb.0 → NoneOwn g pin name wanted at.pb.0 → option_map name_of_mode (mode_at g s.parent.0 s.mode) ≡ Some read → (read ≡ name → ⊥) →
    (edge : ℕ) → IsEdgeWanted g edge pin name wanted → ⊥
other_above g law pin name read wanted at s is_at to own is_read other edge is =
    let e = by_parent g law pin name wanted at s is_at to own edge is in
    let one : e.edge ≡ is.edge = some_injective (sym e.is ∙ is.named.is) in
    let owner : is.edge.owner.0 ≡ s.parent.0 = ap (λ (x : Edge). x.owner.0) (sym one) ∙ e.owned in
    let mode : is.edge.mode ≡ s.mode = ap (λ (x : Edge). x.mode) (sym one) ∙ e.in_mode in
    let names = is.named.is_mode in
    let there : mode_at g s.parent.0 s.mode ≡ Some names.is = sym (ap (λ n. mode_at g n is.edge.mode) owner ∙ ap (λ m. mode_at g s.parent.0 m) mode) ∙ names.there in
    other (some_injective (sym is_read ∙ ap (option_map name_of_mode) there) ∙ sym names.spelled)

-- what the edges of the parent's mode say, where those of the instance itself say nothing
pub wanted_above : (g : Graph) → IsExpansion g → (pin : ℕ) (name read : List ℕ) (wanted : Option PinIx) (at : PinAt) (s : Step) → slice_get g.pins pin ≡ Some at →
    LeadsTo g.instances s at.pb.0 → NoneOwn g pin name wanted at.pb.0 → option_map name_of_mode (mode_at g s.parent.0 s.mode) ≡ Some read → read ≡ name →
    (r : Option EdgeIx) → MatchOption r ((edge : ℕ) → IsEdgeIn g edge pin s.parent.0 s.mode wanted → ⊥) (λ edge. IsEdgeIn g edge.0 pin s.parent.0 s.mode wanted) →
    MatchOption r ((edge : ℕ) → IsEdgeWanted g edge pin name wanted → ⊥) (λ edge. IsEdgeWanted g edge.0 pin name wanted)
wanted_above g law pin name read wanted at s is_at to own is_read same None none = λ edge is. none edge (by_parent g law pin name wanted at s is_at to own edge is)
wanted_above g law pin name read wanted at s is_at to own is_read same (Some edge) is =
    edge_in_mode g edge.0 pin s.parent.0 s.mode name wanted (named_by g s.parent.0 s.mode name (is_read ∙ ap Some same)) is

pub none_at_root : (g : Graph) → IsExpansion g → (pin : ℕ) (name : List ℕ) (wanted : Option PinIx) (at : PinAt) → slice_get g.pins pin ≡ Some at → at.pb.0 ≡ 0 →
    NoneOwn g pin name wanted at.pb.0 → (edge : ℕ) → IsEdgeWanted g edge pin name wanted → ⊥
none_at_root g law pin name wanted at is_at root own edge is =
    let is_end : slice_get g.pins is.edge.dst.0 ≡ Some at = ap (λ k. slice_get g.pins k) is.named.ends ∙ is_at in
    elim (owner_of_end g law edge is.edge is.named.is at is_end) [
      | inl here ↦ own edge is here
      | inr up ↦ root_alone g is.edge.owner.0 at.pb.0 law root up
    ]

-- an edge from a source that is wanted
pub wanted_from : (g : Graph) (edge pin : ℕ) (mode : List ℕ) (source : PinIx) → IsEdgeWanted g edge pin mode (Some source) → IsNamedEdge g edge pin mode source.0
wanted_from g edge pin mode source is = record {
  edge = is.edge;
  named = record { is = is.named.is; ends = is.named.ends; starts = is.comes; is_mode = is.named.is_mode };
}
