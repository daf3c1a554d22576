-- Once modes and leaves are decided, what may be is decided, but for entries and edges.
use Rattle.std.proofs.Common.{◌≡◌, ◌+◌, ◌<◌, ◌⊎◌, inl, inr, ℕ, zero, suc, List, [], ◌∷◌, ◌++◌, Option, Some, None, IsSome, length, slice_get, refl, sym, ap, ◌∙◌, subst, arith}
use Rattle.std.specs.Prelude.{IfNone}
use Rattle.std.specs.Option.{option_map, option_and_then}
use Rattle.std.proofs.lemmas.Option.{slice_get_within}
use Rattle.vtr_base.specs.Lists.{Has}
use Rattle.list_laws.proofs.Members.{has_at}
use Rattle.arch_types.specs.declared.block.PbType.{PbType}
use Rattle.arch_types.specs.Address.{Address, at}
use Rattle.arch_types.specs.declared.block.AtomKind.TheVariants.{Lut}
use Rattle.pb_expand.specs.declared.number.Edge.{Edge}
use Rattle.pb_expand.specs.declared.number.EdgeIx.{EdgeIx}
use Rattle.pb_expand.specs.Graph.{Graph, block_at, kind_of, pin_ix, edge_ix}
use Rattle.pb_expand.specs.declared.number.PbKind.TheVariants as kinds
use Rattle.pb_expand.specs.Ends.{AreEdgesWith}
use Rattle.pb_expand.specs.Expansion.{IsExpansion}
use Rattle.pb_expand.specs.OneOwner.{HasOneOwner}
use Rattle.prog_map.specs.Choices.{IsEdgeInto}
use Rattle.prog_map.specs.Leaves.{IsLeaf, HasModes}
use Rattle.prog_map.specs.Live.{IsLiveAt, IsLivePin}
use Rattle.task_types.specs.declared.task.Task.{Task}
use Rattle.task_types.specs.declared.task.Need.{Need}
use Rattle.task_types.specs.declared.task.Need.TheVariants as need
use Rattle.task_types.specs.declared.task.Entries.{Entries}
use Rattle.task_types.specs.declared.task.Entries.TheVariants.{Free, Fixed}
use Rattle.task_types.specs.declared.tree.Var.{Var}
use Rattle.task_types.specs.declared.tree.Var.TheVariants as var
use Rattle.task_types.specs.declared.decision.Decision.{Decision}
use Rattle.task_types.specs.declared.decision.Occupant.{Occupant}
use Rattle.task_types.specs.declared.decision.Occupant.TheVariants.{Atom, Wire}
use Rattle.task_types.specs.Nets.{NetSaid}
use Rattle.task_types.specs.Decisions.{mode_in, occupant_in, edge_in, entry_in, is_placed}
use Rattle.task_types.specs.Ends.{net_of, IsEnd, IsSource}
use Rattle.task_types.specs.Open.{IsOpen, IsOpenTo, MayEnterBy, MayEnter, SurelyEnters, SurelyEntersBy, AllowsEdge, AllowsPass, AllowsStep, MayEnd, MayStart}
use Rattle.task_types.specs.Tidy.{AreModesDecided}
use Rattle.search_rules.specs.Left.{AreLeavesDecided, HasLeafHomes}
use Rattle.search_rules.specs.Settled.{IsHomeOf, TakesEdge, TakesPass, TakesStep}
use Rattle.search_choice.specs.Opens.{IsOpenVar, IsOpenEdge}
use Rattle.search_choice.proofs.Lively.{modes_kind, open_live}

some_same : {X : Type 0} {x y : X} → Some x ≡ Some y → x ≡ y
some_same e = cc

-- what is decided is known
not_none : {X : Type 0} (o : Option X) → IsSome o → o ≡ None → ⊥
not_none None some is = absurd cc
not_none (Some x) some is = absurd cc

pub if_none : {X P : Type 0} (o : Option X) → P → IfNone o P
if_none None holds = holds
if_none (Some x) holds = record {}

-- a leaf is an instance
leaf_inside : (g : Graph) (leaf : ℕ) → IsLeaf g leaf → leaf < length g.instances
leaf_inside g leaf is = by (slice_get g.instances leaf) refl is.is
  where
    by : (o : Option Address) → slice_get g.instances leaf ≡ o → option_map (λ (block : PbType). kind_of block.kind) (option_and_then (λ address. at g.root address) o) ≡ Some (kinds.Leaf is.atom) → leaf < length g.instances
    by None at kind = absurd cc
    by (Some address) at kind = slice_get_within g.instances leaf address at

module _ (g : Graph) (made : List Decision) (law : IsExpansion g) (modes : AreModesDecided g made) where
  -- the owner of an edge that may be taken is live, and decided to be in its mode
  pub live_owner : (pin source : ℕ) (step : AllowsEdge g made pin source) → IsLiveAt g (mode_in made) step.edge.owner.0 × (mode_in made step.edge.owner.0 ≡ Some step.edge.mode)
  live_owner pin source step =
      let of = law.has_edges.each step.edge (has_at g.edges step.number step.edge step.is) in
      let live = open_live g made law modes step.edge.owner.0 step.open' (slice_get_within g.instances step.edge.owner.0 of.address of.is_owner) in
      let block : block_at g step.edge.owner.0 ≡ Some of.block = ap (option_and_then (λ (a : Address). at g.root a)) of.is_owner ∙ of.is_block in
      let kind = modes_kind of.block.kind step.edge.mode of.mode of.is_mode in
      let has : HasModes g step.edge.owner.0 = record { count = kind.0; is = ap (option_map (λ (b : PbType). kind_of b.kind)) block ∙ ap Some kind.1 } in
      (live, by (mode_in made step.edge.owner.0) refl (modes.each step.edge.owner.0 has live))
    where
      by : (o : Option ℕ) → mode_in made step.edge.owner.0 ≡ o → IsSome o → mode_in made step.edge.owner.0 ≡ Some step.edge.mode
      by None is some = absurd cc
      by (Some decided) is some = is ∙ ap Some (step.mode decided is)

  pub live_pin : (pin source : ℕ) (step : AllowsEdge g made pin source) → IsLivePin g (mode_in made) pin step.edge.mode
  live_pin pin source step = record {
    number = step.number;
    into = record { edge = step.edge; there = step.is; ends = step.ends; in_mode = refl };
    live = (live_owner pin source step).0;
    chosen = (live_owner pin source step).1;
  }

  -- an edge that may be taken is taken, where the pin's edge in its mode is decided
  pub takes_edge : (pin source : ℕ) (step : AllowsEdge g made pin source) → (edge_in made pin step.edge.mode ≡ None → ⊥) → TakesEdge g made pin source
  takes_edge pin source step decided = record {
    number = step.number;
    edge = step.edge;
    is = step.is;
    ends = step.ends;
    starts = step.starts;
    taken = elim step.free [ inl none ↦ absurd (decided none) | inr taken ↦ taken ];
  }

  module _ (leaves : AreLeavesDecided g made) where
    pub takes_pass : (pin source : ℕ) → AllowsPass g made pin source → TakesPass g made pin source
    takes_pass pin source pass = record {
      at = pass.at;
      is = pass.is;
      output = pass.output;
      port = pass.port;
      width = pass.width;
      inputs = pass.inputs;
      input = pass.input;
      leads = pass.leads;
      passes = elim pass.free [ inl none ↦ absurd (not_none (occupant_in made pass.at.pb.0) used none) | inr wire ↦ wire ];
    }
      where
        leaf : IsLeaf g pass.at.pb.0
        leaf = record { atom = Lut; is = pass.inputs.lut }

        used : IsSome (occupant_in made pass.at.pb.0)
        used = leaves.each pass.at.pb.0 leaf (open_live g made law modes pass.at.pb.0 pass.open' (leaf_inside g pass.at.pb.0 leaf))

    -- where no edge leads into the pin, or where its edge in the one live mode isn't open, each step is decided

    pub no_edges : (pin : ℕ) (list : List EdgeIx) → AreEdgesWith g (λ e. e.dst.0 ≡ pin) list → slice_get list 0 ≡ None → (q : ℕ) → AllowsStep g made pin q → TakesStep g made pin q
    no_edges pin list lists none q (inl step) = absurd (by list ((lists.exact step.number).1 (step.edge, step.is, step.ends)) none)
      where
        by : (xs : List EdgeIx) → Has xs (edge_ix step.number) → slice_get xs 0 ≡ None → ⊥
        by [] has e = has
        by (x ∷ xs) has e = cc
    no_edges pin list lists none q (inr pass) = inr (takes_pass pin q pass)

    module _ (pin : ℕ) (list : List EdgeIx) (lists : AreEdgesWith g (λ e. e.dst.0 ≡ pin) list) (owners : HasOneOwner g) (first : EdgeIx) (is_first : slice_get list 0 ≡ Some first) (edge : Edge) (is : slice_get g.edges first.0 ≡ Some edge) where
      first_owner : (source : ℕ) (step : AllowsEdge g made pin source) → mode_in made edge.owner.0 ≡ Some step.edge.mode
      first_owner source step =
          let found = (lists.exact first.0).0 (has_at list 0 first is_first) in
          let same : found.0 ≡ edge = some_same (sym found.1 ∙ is) in
          let ends : edge.dst.0 ≡ pin = ap (λ (e : Edge). e.dst.0) (sym same) ∙ found.2 in
          let owner = owners.one edge step.edge (has_at g.edges first.0 edge is) (has_at g.edges step.number step.edge step.is) (ap pin_ix (ends ∙ sym step.ends)) in
          ap (λ o. mode_in made o.0) owner ∙ (live_owner pin source step).1

      pub no_mode : mode_in made edge.owner.0 ≡ None → (q : ℕ) → AllowsStep g made pin q → TakesStep g made pin q
      no_mode none q (inl step) = let some = first_owner q step in absurd cc
      no_mode none q (inr pass) = inr (takes_pass pin q pass)

      pub not_open : (t : Task) (mode : ℕ) → mode_in made edge.owner.0 ≡ Some mode → (IsOpenVar g t made (var.Edge (pin_ix pin) mode) → ⊥) → (q : ℕ) → AllowsStep g made pin q → TakesStep g made pin q
      not_open t mode chosen shut q (inl step) =
          let same : step.edge.mode ≡ mode = some_same (sym (first_owner q step) ∙ chosen) in
          inl (takes_edge pin q step (λ none. shut (record {
            live = subst (λ m. IsLivePin g (mode_in made) pin m) same (live_pin pin q step);
            undecided = ap (edge_in made pin) (sym same) ∙ none;
          })))
      not_open t mode chosen shut q (inr pass) = inr (takes_pass pin q pass)

    module _ (t : Task) (homes : HasLeafHomes g t) where
      pub at_home : (place leaf : ℕ) → IsOpenTo g t made place leaf → IsHomeOf made place leaf
      at_home place leaf may = elim may.free [
        | inl home ↦ home
        | inr free ↦ absurd (
            let is = homes.each place leaf may.holds in
            not_none (occupant_in made leaf) (leaves.each leaf is (open_live g made law modes leaf may.open' (leaf_inside g leaf is))) free.1)
      ]

      pub sure_end : (n : NetSaid) (need : Need) (pin : ℕ) → MayEnd g n t made need pin → IsEnd g n t (IsHomeOf made) need pin
      sure_end n (need.Input atom conn net) pin end = (end.0, at_home atom end.0 end.1, end.2)
      sure_end n (need.LutNet atom net) pin end = (end.0, at_home atom end.0 end.1, end.2)
      sure_end n (need.Leave net) pin end = end
      sure_end n (need.LeaveAt net at) pin end = end

      pub sure_source : (n : NetSaid) (need : Need) (pin : ℕ) → MayStart g n t made need pin → (IsOpenVar g t made (var.Entry (pin_ix pin)) → ⊥) → IsSource g n t (IsHomeOf made) (SurelyEnters t made) need pin
      sure_source n need pin (inl first) shut = inl (record { place = first.place; leaf = first.leaf; at = at_home first.place first.leaf first.at; made = first.made })
      sure_source n need pin (inr enters) shut = inr (enters.0, by t.entries refl enters.1.free)
        where
          by : (es : Entries) → t.entries ≡ es → MayEnterBy es made (net_of need) pin → SurelyEntersBy es made (net_of need) pin
          by Free is (inl none) = absurd (shut (record { live = (enters.1.root, is); undecided = none }))
          by Free is (inr sure) = sure
          by (Fixed es) is sure = sure
