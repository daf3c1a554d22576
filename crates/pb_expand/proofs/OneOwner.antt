-- The edges into a pin are all of one instance: a pin of the block itself that is an end is an
-- output, and one of a child is none.
use Rattle.std.proofs.Common.{◌≡◌, ◌<◌, ◌⊎◌, ℕ, List, [], ◌∷◌, Option, Some, None, map, slice_get, sym, refl, ap, ◌∙◌, subst, inl, inr}
use Rattle.std.specs.Option.{option_and_then}
use Rattle.vtr_base.specs.Lists.{Has}
use Rattle.arch_types.specs.declared.block.PbType.{PbType}
use Rattle.arch_types.specs.declared.block.Port.{Port}
use Rattle.arch_types.specs.declared.block.Side.{Side}
use Rattle.arch_types.specs.declared.block.Side.TheVariants.{Input, Output, Clock}
use Rattle.arch_types.specs.declared.block.Mode.{Mode}
use Rattle.arch_types.specs.Tree.{modes_of, kids_of}
use Rattle.arch_types.specs.Address.{Address, Hop, at, child_at, step_to}
use Rattle.arch_types.proofs.Once.{has_either}
use Rattle.mode_edges.specs.declared.pin.LocalPin.{LocalPin}
use Rattle.mode_edges.specs.declared.pin.ChildAt.{ChildAt}
use Rattle.mode_edges.specs.declared.pin.EdgeEnd.TheVariants.{End}
use Rattle.mode_edges.specs.PinWords.{IsOwnSide, IsChildSide, Word, NamesOwn, NamesChild, NamesAll, own_pin, child_pin}
use Rattle.mode_edges.specs.Edges.{IsEdge}
use Rattle.pb_expand.specs.declared.number.PinAt.{PinAt}
use Rattle.pb_expand.specs.declared.number.PinIx.{PinIx}
use Rattle.pb_expand.specs.declared.number.Edge.{Edge}
use Rattle.pb_expand.specs.Graph.{Graph, pb_ix, pin_at}
use Rattle.pb_expand.specs.Expansion.{IsExpansion, IsEdgeOf, owner_address}
use Rattle.pb_expand.specs.OneOwner.{HasOneOwner}
use Rattle.pb_expand.proofs.Lists.{snoc_front}
use Rattle.pb_expand.proofs.Blocks.{at_step}
use Rattle.pb_expand.proofs.PinsThere.{member_inside, map_has, flat_map_has, pair_has}
use Rattle.pb_expand.proofs.PinPlaces.{child_is}

own_end : (s : Side) → IsOwnSide End s → s ≡ Output
own_end Input fits = absurd fits
own_end Output fits = refl
own_end Clock fits = absurd fits

child_end : (s : Side) → IsChildSide End s → s ≡ Output → ⊥
child_end s fits e = subst (λ t. IsChildSide End t) e fits

-- a port that is an end: an output of the block itself, or no output of an instance of a child
abbrev pub IsEndAt : PbType → Mode → Option ChildAt → ℕ → Type 0
IsEndAt block mode None port = (is : Port) × (slice_get block.ports port ≡ Some is) × (is.side ≡ Output)
IsEndAt block mode (Some c) port =
    (kid : PbType) × (slice_get (kids_of mode) c.child ≡ Some kid) × (c.instance < kid.count) ×
    ((is : Port) × (slice_get kid.ports port ≡ Some is) × (is.side ≡ Output → ⊥))

abbrev pub IsEnd : PbType → Mode → LocalPin → Type 0
IsEnd block mode pin = IsEndAt block mode pin.owner pin.port

own_is : (block : PbType) (mode : Mode) (w : Word) (pins : List LocalPin) (p : LocalPin) → NamesOwn block End w pins → Has pins p → IsEnd block mode p
own_is block mode w pins p names has =
    let bit = map_has (own_pin names.port) names.bits p (subst (λ ps. Has ps p) names.are has) in
    let is : IsEnd block mode (own_pin names.port bit.0) = (names.names.is, names.names.there, own_end names.names.is.side names.names.side) in
    subst (IsEnd block mode) (sym bit.2) is

kid_is : (block : PbType) (mode : Mode) (w : Word) (pins : List LocalPin) (p : LocalPin) → NamesChild block mode End w pins → Has pins p → IsEnd block mode p
kid_is block mode w pins p names has =
    let instance = flat_map_has (λ i. map (child_pin names.child i names.port) names.bits) names.instances p (subst (λ ps. Has ps p) names.are has) in
    let bit = map_has (child_pin names.child instance.0 names.port) names.bits p instance.2 in
    let counted = member_inside names.index names.kid.count names.instances instance.0 names.members instance.1 in
    let is : IsEnd block mode (child_pin names.child instance.0 names.port bit.0) =
    (names.kid, names.there, counted, (names.names.is, names.names.there, child_end names.names.is.side names.names.side)) in
    subst (IsEnd block mode) (sym bit.2) is

word_is : (block : PbType) (mode : Mode) (w : Word) (pins : List LocalPin) (p : LocalPin) → NamesOwn block End w pins ⊎ NamesChild block mode End w pins →
    Has pins p → IsEnd block mode p
word_is block mode w pins p (inl names) has = own_is block mode w pins p names has
word_is block mode w pins p (inr names) has = kid_is block mode w pins p names has

all_are : (block : PbType) (mode : Mode) (texts : List (List ℕ)) (pins : List LocalPin) (p : LocalPin) → NamesAll block mode End texts pins →
    Has pins p → IsEnd block mode p
all_are block mode [] pins p none has = absurd (subst (λ ps. Has ps p) none has)
all_are block mode (text ∷ texts) pins p names has =
    elim (has_either names.0 names.1 p (subst (λ ps. Has ps p) names.4 has)) [
      | inl left ↦ word_is block mode names.2.word names.0 p names.2.named left
      | inr right ↦ all_are block mode texts names.1 p names.3 right
    ]

pub edge_end : (block : PbType) (mode : Mode) (inter : ℕ) (s d : LocalPin) → IsEdge block mode inter s d → IsEnd block mode d
edge_end block mode inter s d edge =
    let gives = edge.gives.1 in
    all_are block mode gives.reads_outs.words gives.outs d gives.reads_outs.names
    (pair_has gives.here.kind gives.ins gives.outs edge.gives.0 s d gives.pair).1

-- the pb_type of an instance of a child
pub kid_at : (root : PbType) (a : Address) (m : ℕ) (block : PbType) (mode : Mode) (c : ChildAt) (kid : PbType) → at root a ≡ Some block →
    slice_get (modes_of block.kind) m ≡ Some mode → slice_get (kids_of mode) c.child ≡ Some kid → c.instance < kid.count →
    at root (step_to a m c.child c.instance) ≡ Some kid
kid_at root a m block mode c kid at_a is_mode is_kid counted =
    let hop : Hop = record { mode = m; child = c.child; instance = c.instance } in
    at_step root a hop ∙ ap (option_and_then (λ b. child_at b hop)) at_a ∙ child_is block hop mode kid is_mode is_kid counted

-- one port is no output and none at once
clash : (port : ℕ) (one other : PbType) → Some one ≡ Some other → (p q : Port) → slice_get one.ports port ≡ Some p → slice_get other.ports port ≡ Some q →
    p.side ≡ Output → (q.side ≡ Output → ⊥) → ⊥
clash port one other same p q at_p at_q out none =
    let blocks : one ≡ other = cc in
    let both : Some p ≡ Some q = sym at_p ∙ ap (λ (b : PbType). slice_get b.ports port) blocks ∙ at_q in
    let ports : p ≡ q = cc in
    none (ap (λ (r : Port). r.side) (sym ports) ∙ out)

-- where two ends are one port of one instance, they are ends of one block
one_address : (root : PbType) (a b : Address) (m n : ℕ) (block other : PbType) (mode is : Mode) (x y : Option ChildAt) (port : ℕ) →
    at root a ≡ Some block → at root b ≡ Some other → slice_get (modes_of block.kind) m ≡ Some mode → slice_get (modes_of other.kind) n ≡ Some is →
    IsEndAt block mode x port → IsEndAt other is y port → owner_address a m x ≡ owner_address b n y → a ≡ b
one_address root a b m n block other mode is None None port at_a at_b at_m at_n end_x end_y same = same
one_address root a b m n block other mode is None (Some d) port at_a at_b at_m at_n end_x end_y same =
    let kid = kid_at root b n other is d end_y.0 at_b at_n end_y.1 end_y.2 in
    let here : Some block ≡ Some end_y.0 = sym at_a ∙ ap (at root) same ∙ kid in
    absurd (clash port block end_y.0 here end_x.0 end_y.3.0 end_x.1 end_y.3.1 end_x.2 end_y.3.2)
one_address root a b m n block other mode is (Some c) None port at_a at_b at_m at_n end_x end_y same =
    let kid = kid_at root a m block mode c end_x.0 at_a at_m end_x.1 end_x.2 in
    let here : Some other ≡ Some end_x.0 = sym at_b ∙ ap (at root) (sym same) ∙ kid in
    absurd (clash port other end_x.0 here end_y.0 end_x.3.0 end_y.1 end_x.3.1 end_y.2 end_x.3.2)
one_address root a b m n block other mode is (Some c) (Some d) port at_a at_b at_m at_n end_x end_y same =
    snoc_front a b (record { mode = m; child = c.child; instance = c.instance }) (record { mode = n; child = d.child; instance = d.instance }) same

of_one : (g : Graph) → IsExpansion g → (e f : Edge) → IsEdgeOf g e → IsEdgeOf g f → e.dst ≡ f.dst → e.owner ≡ f.owner
of_one g law e f of to same =
    let both : Some (pin_at of.is_dst.pb of.dst.port of.dst.bit) ≡ Some (pin_at to.is_dst.pb to.dst.port to.dst.bit) =
    sym of.is_dst.is_pin ∙ ap (λ (p : PinIx). slice_get g.pins p.0) same ∙ to.is_dst.is_pin in
    let pins : pin_at of.is_dst.pb of.dst.port of.dst.bit ≡ pin_at to.is_dst.pb to.dst.port to.dst.bit = cc in
    let pbs : of.is_dst.pb ≡ to.is_dst.pb = ap (λ (p : PinAt). p.pb.0) pins in
    let ports : of.dst.port ≡ to.dst.port = ap (λ (p : PinAt). p.port) pins in
    let there : Some (owner_address of.address e.mode of.dst.owner) ≡ Some (owner_address to.address f.mode to.dst.owner) =
    sym of.is_dst.is_instance ∙ ap (λ n. slice_get g.instances n) pbs ∙ to.is_dst.is_instance in
    let places : owner_address of.address e.mode of.dst.owner ≡ owner_address to.address f.mode to.dst.owner = cc in
    let end_of : IsEndAt of.block of.mode of.dst.owner of.dst.port = edge_end of.block of.mode e.inter of.src of.dst of.edge in
    let end_to : IsEndAt to.block to.mode to.dst.owner to.dst.port = edge_end to.block to.mode f.inter to.src to.dst to.edge in
    let addresses : of.address ≡ to.address =
    one_address g.root of.address to.address e.mode f.mode of.block to.block of.mode to.mode of.dst.owner to.dst.owner to.dst.port of.is_block to.is_block of.is_mode to.is_mode
    (subst (IsEndAt of.block of.mode of.dst.owner) ports end_of) end_to places in
    let owners : e.owner.0 ≡ f.owner.0 = law.numbering.once e.owner.0 f.owner.0 of.address of.is_owner (to.is_owner ∙ ap Some (sym addresses)) in
    ap pb_ix owners

pub one_owner : (g : Graph) → IsExpansion g → HasOneOwner g
one_owner g law = record {
  one = λ e f has_e has_f same. of_one g law e f (law.has_edges.each e has_e) (law.has_edges.each f has_f) same;
}
