-- Where edges lead: into an output of their own instance, or into an input or a clock of one below.
use Rattle.std.proofs.Common.{◌≡◌, ◌≢◌, ◌⊎◌, ℕ, List, [], Option, Some, None, IsSome, slice_get, refl, sym, ap, ◌∙◌, subst, inl, inr}
use Rattle.std.specs.Option.{option_and_then}
use Rattle.vtr_base.specs.Lists.{Has}
use Rattle.arch_types.specs.declared.block.PbType.{PbType}
use Rattle.arch_types.specs.declared.block.Port.{Port}
use Rattle.arch_types.specs.declared.block.Side.{Side}
use Rattle.arch_types.specs.declared.block.Side.TheVariants.{Output}
use Rattle.arch_types.specs.Tree.{modes_of}
use Rattle.arch_types.specs.Address.{Address, at, step_to}
use Rattle.arch_types.specs.Numbering.{IsNumbering}
use Rattle.mode_edges.specs.declared.pin.ChildAt.{ChildAt}
use Rattle.pb_expand.specs.declared.number.PinAt.{PinAt}
use Rattle.pb_expand.specs.declared.number.Edge.{Edge}
use Rattle.pb_expand.specs.declared.number.Step.{Step}
use Rattle.pb_expand.specs.Graph.{Graph, pb_ix, pin_at, block_at, mode_at, step_from, LeadsTo}
use Rattle.pb_expand.specs.Rows.{addresses, IsTree}
use Rattle.pb_expand.specs.Expansion.{IsExpansion, IsEdgeOf, owner_address}
use Rattle.pb_expand.specs.Kept.{IsOn, IsBelow, HasSides}
use Rattle.pb_expand.proofs.RowLemmas.{root_first}
use Rattle.pb_expand.proofs.PinPlaces.{below_leads, not_root}
use Rattle.pb_expand.proofs.OneOwner.{IsEndAt, edge_end, kid_at}

module _ (g : Graph) (rows : List Step) (tree : IsTree rows) (are : g.instances ≡ addresses rows) (law : IsExpansion g) where
  -- an edge with its pin
  record Reaches (e : Edge) (pin : PinAt) : Type 0 where
    is : IsEdgeOf g e
    same : pin_at is.is_dst.pb is.dst.port is.dst.bit ≡ pin

  reaches : (e : Edge) (pin : PinAt) → Has g.edges e → slice_get g.pins e.dst.0 ≡ Some pin → Reaches e pin
  reaches e pin has at_pin =
      let is = law.has_edges.each e has in
      let read : Some (pin_at is.is_dst.pb is.dst.port is.dst.bit) ≡ Some pin = sym is.is_dst.is_pin ∙ at_pin in
      record { is = is; same = cc }

  block_is : (n : ℕ) (a : Address) (block : PbType) → slice_get g.instances n ≡ Some a → at g.root a ≡ Some block → block_at g n ≡ Some block
  block_is n a block at_n is = ap (option_and_then (λ x. at g.root x)) at_n ∙ is

  -- the pin of a port of a block that is known
  port_is : (e : Edge) (pin : PinAt) (r : Reaches e pin) (block : PbType) (is : Port) (side : Side) → block_at g r.is.is_dst.pb ≡ Some block →
      slice_get block.ports r.is.dst.port ≡ Some is → is.side ≡ side → IsOn g pin side
  port_is e pin r block is side is_block is_port on =
      subst (λ p. IsOn g p side) r.same (record { block = block; is_block = is_block; port = is; is_port = is_port; on = on })

  -- a pin has one side
  one_side : (pin : PinAt) (s t : Side) → IsOn g pin s → IsOn g pin t → s ≡ t
  one_side pin s t a b =
      let blocks : Some a.block ≡ Some b.block = sym a.is_block ∙ b.is_block in
      let block : a.block ≡ b.block = cc in
      let read : Some a.port ≡ Some b.port = sym a.is_port ∙ ap (λ (x : PbType). slice_get x.ports pin.port) block ∙ b.is_port in
      let port : a.port ≡ b.port = cc in
      sym a.on ∙ ap (λ (x : Port). x.side) port ∙ b.on

  -- what is known of the pin, by its owner
  abbrev Leads : Edge → PinAt → Type 0
  Leads e pin = (IsOn g pin Output × (e.owner ≡ pin.pb)) ⊎ ((side : Side) × IsOn g pin side × (side ≢ Output) × IsBelow g e pin.pb.0)

  leads : (e : Edge) (pin : PinAt) → Reaches e pin → Leads e pin
  leads e pin r = by r.is.dst.owner refl (edge_end r.is.block r.is.mode e.inter r.is.src r.is.dst r.is.edge)
    where
      is : IsEdgeOf g e
      is = r.is

      pbs : is.is_dst.pb ≡ pin.pb.0
      pbs = ap (λ (p : PinAt). p.pb.0) r.same

      by : (owner : Option ChildAt) → is.dst.owner ≡ owner → IsEndAt is.block is.mode is.dst.owner is.dst.port → Leads e pin
      by None none end' =
          let end = subst (λ o. IsEndAt is.block is.mode o is.dst.port) none end' in
          let there : slice_get g.instances is.is_dst.pb ≡ Some is.address = is.is_dst.is_instance ∙ ap (λ o. Some (owner_address is.address e.mode o)) none in
          let same : e.owner.0 ≡ is.is_dst.pb = law.numbering.once e.owner.0 is.is_dst.pb is.address is.is_owner there in
          inl (port_is e pin r is.block end.0 Output (block_is is.is_dst.pb is.address is.block there is.is_block) end.1 end.2, ap pb_ix (same ∙ pbs))
      by (Some c) some end' =
          let end = subst (λ o. IsEndAt is.block is.mode o is.dst.port) some end' in
          let there : slice_get g.instances is.is_dst.pb ≡ Some (step_to is.address e.mode c.child c.instance) =
          is.is_dst.is_instance ∙ ap (λ o. Some (owner_address is.address e.mode o)) some in
          let kid = kid_at g.root is.address e.mode is.block is.mode c end.0 is.is_block is.is_mode end.1 end.2 in
          let says = below_leads g.root rows e.owner.0 e.mode c.child c.instance is.is_dst.pb is.address tree (subst (λ l. IsNumbering g.root l) are law.numbering)
          (subst (λ l. slice_get l e.owner.0 ≡ Some is.address) are is.is_owner) (subst (λ l. slice_get l is.is_dst.pb ≡ Some (step_to is.address e.mode c.child c.instance)) are there) in
          let below : LeadsTo g.instances (step_from e.owner.0 e.mode c.child c.instance) pin.pb.0 =
          subst (λ l. LeadsTo l (step_from e.owner.0 e.mode c.child c.instance) pin.pb.0) (sym are)
          (subst (λ n. LeadsTo (addresses rows) (step_from e.owner.0 e.mode c.child c.instance) n) pbs says) in
          inr (
            end.3.0.side,
            port_is e pin r end.0 end.3.0 end.3.0.side (block_is is.is_dst.pb (step_to is.address e.mode c.child c.instance) end.0 there kid) end.3.1 refl,
            end.3.2,
            record { child = c.child; instance = c.instance; leads = below },
          )

  own : (e : Edge) (pin : PinAt) → Leads e pin → IsOn g pin Output → e.owner ≡ pin.pb
  own e pin (inl is) on = is.1
  own e pin (inr is) on = absurd (is.2 (one_side pin is.0 Output is.1 on))

  below : (e : Edge) (pin : PinAt) (side : Side) → Leads e pin → IsOn g pin side → side ≢ Output → IsBelow g e pin.pb.0
  below e pin side (inl is) on other = absurd (other (one_side pin side Output on is.0))
  below e pin side (inr is) on other = is.3

  at_root : (e : Edge) (pin : PinAt) → pin.pb.0 ≡ 0 → Leads e pin → IsOn g pin Output
  at_root e pin root (inl is) = is.0
  at_root e pin root (inr is) =
      let b = is.3 in
      let first : slice_get g.instances pin.pb.0 ≡ Some [] = ap (λ n. slice_get g.instances n) root ∙ ap (λ l. slice_get l 0) are ∙ root_first rows in
      let read : Some [] ≡ Some (step_to b.leads.parent e.mode b.child b.instance) = sym first ∙ b.leads.is_child in
      let same : [] ≡ step_to b.leads.parent e.mode b.child b.instance = cc in
      absurd (not_root b.leads.parent (record { mode = e.mode; child = b.child; instance = b.instance }) same)

  has_mode : (e : Edge) → IsEdgeOf g e → IsSome (mode_at g e.owner.0 e.mode)
  has_mode e is =
      let block = block_is e.owner.0 is.address is.block is.is_owner is.is_block in
      let mode : mode_at g e.owner.0 e.mode ≡ Some is.mode = ap (option_and_then (λ (b : PbType). slice_get (modes_of b.kind) e.mode)) block ∙ is.is_mode in
      subst (λ o. IsSome o) (sym mode) refl

  pub sides : HasSides g
  sides = record {
    modes = λ e has. has_mode e (law.has_edges.each e has);
    own = λ e pin has at_pin on. own e pin (leads e pin (reaches e pin has at_pin)) on;
    below = λ e pin side has at_pin on other. below e pin side (leads e pin (reaches e pin has at_pin)) on other;
    root = λ e pin has at_pin root. at_root e pin root (leads e pin (reaches e pin has at_pin));
  }
