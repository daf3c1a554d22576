-- A file says one graph, or is refused in one way.
use Rattle.std.proofs.Common.{◌≡◌, ℕ, Bool, List, Option, refl, sym, ap, ◌∙◌, subst, inl, inr, arith}
use Rattle.elem_text.specs.declared.elem.Elem.{Elem}
use Rattle.elem_text.specs.declared.error.ElemError.{ElemError}
use Rattle.elem_text.specs.declared.error.ElemError.TheVariants as elem
use Rattle.elem_text.specs.Laws.{SpellsOneElement, BreaksAtOnePlace, BreaksOrIsSpelled, BreaksOrIsTooDeep}
use Rattle.arch_types.specs.declared.arch.Tile.{Tile}
use Rattle.rr_items.specs.declared.carriers.CarriedNode.{CarriedNode}
use Rattle.rr_items.specs.declared.grid.GridPlace.{GridPlace}
use Rattle.rr_items.specs.declared.switches.Switch.{Switch}
use Rattle.rr_places.specs.Switches.{AreSwitches, IsSwitchRefused}
use Rattle.rr_places.specs.Types.{NumberedType, AreTypes, IsTypeRefused}
use Rattle.rr_grid.specs.Saying.{SaysGrid}
use Rattle.rr_grid.specs.Refusing.{IsRefused as IsGridRefused}
use Rattle.rr_locs.specs.declared.roots.LocAt.{LocAt}
use Rattle.rr_locs.specs.declared.roots.TileRoot.{TileRoot}
use Rattle.rr_locs.specs.Places.{AreLocs}
use Rattle.rr_nodes.specs.declared.pins.FoundPin.{FoundPin}
use Rattle.rr_nodes.specs.declared.placed.PlacedNode.{PlacedNode}
use Rattle.rr_nodes.specs.Saying.{SaysNodes}
use Rattle.rr_nodes.specs.Refusing.{IsRefused as IsNodeRefused}
use Rattle.rr_edges.specs.declared.kept.FileEdge.{FileEdge}
use Rattle.rr_edges.specs.FileEdges.{edges_of, SaysEdges, Refuses as RefusesEdges}
use Rattle.rr_edges.specs.Known.{Known}
use Rattle.rr_wires.specs.declared.types.NodeEdge.{NodeEdge}
use Rattle.rr_wires.specs.Numbering.{WireGraph}
use Rattle.rr_wires.specs.Wires.{IsGraphOf}
use Rattle.rr_tables.specs.Looks.{LayoutParts, knows_type, pin_of, known_of}
use Rattle.rr_tables.specs.Roots.{roots_of}
use Rattle.rr_files.specs.declared.error.RrError.{RrError}
use Rattle.rr_files.specs.Parts.{GraphParts, carried, node_edges}
use Rattle.rr_files.specs.Saying.{grid_elems, node_elems, SaysLayout, SaysGraph, SpellsRoot, SpellsGraph}
use Rattle.rr_files.specs.Refusing.{error_of_elem, error_of_place, error_of_grid, error_of_node, error_of_edge, IsTold, FailsOr, AreTooMany, GridFails, LayoutFails, EdgesFail, NodesFail, BodyFails, RootFails, RefusesText, IsRefused}

-- what a part that is read or refused in one way keeps

abbrev pub OneOf : {A : Type 0} → (A → Type 0) → Type 0
OneOf {A} P = (x y : A) → P x → P y → x ≡ y

pub record IsPart {V E : Type 0} (Fails : E → Type 0) (Says : V → Type 0) : Type 0 where
  pub fails_one : OneOf Fails
  pub says_one : OneOf Says
  pub apart : (v : V) (e : E) → Says v → Fails e → ⊥

told_part : {V E : Type 0} (Refuses : E → Type 0) (Says : V → Type 0) (tell : E → RrError) → IsPart Refuses Says → IsPart (IsTold Refuses tell) Says
told_part Refuses Says tell part = record {
  fails_one = λ x y a b. a.told ∙ (ap tell (part.fails_one a.cause b.cause a.refused b.refused) ∙ sym b.told);
  says_one = part.says_one;
  apart = λ v e says told. part.apart v told.cause says told.refused;
}

one_or : {V : Type 0} (Fails : RrError → Type 0) (Says : V → Type 0) (Later : V → RrError → Type 0) → IsPart Fails Says → ((v : V) → OneOf (Later v)) → OneOf (FailsOr Fails Says Later)
one_or Fails Says Later part later x y (inl a) (inl b) = part.fails_one x y a b
one_or Fails Says Later part later x y (inl a) (inr b) = absurd (part.apart b.value x b.says a)
one_or Fails Says Later part later x y (inr a) (inl b) = absurd (part.apart a.value y a.says b)
one_or Fails Says Later part later x y (inr a) (inr b) =
    later b.value x y (subst (λ v. Later v x) (part.says_one a.value b.value a.says b.says) a.fails) b.fails

or_apart : {V : Type 0} (Fails : RrError → Type 0) (Says : V → Type 0) (Later : V → RrError → Type 0) → IsPart Fails Says → (v : V) → Says v → (e : RrError) →
    (Later v e → ⊥) → FailsOr Fails Says Later e → ⊥
or_apart Fails Says Later part v says e not_later (inl a) = part.apart v e says a
or_apart Fails Says Later part v says e not_later (inr b) = not_later (subst (λ w. Later w e) (part.says_one b.value v b.says says) b.fails)

-- what the parts' crates tell

pub record Given : Type 0 where
  pub one_element : SpellsOneElement
  pub one_place : BreaksAtOnePlace
  pub spelled : BreaksOrIsSpelled
  pub deep : BreaksOrIsTooDeep
  pub switches : (root : Elem) → IsPart (IsSwitchRefused root) (AreSwitches root)
  pub types : (tiles : List Tile) (root : Elem) → IsPart (IsTypeRefused tiles root) (AreTypes tiles root)
  pub grid : (known : ℕ → Bool) (es : List Elem) → IsPart (IsGridRefused known es) (SaysGrid known es)
  pub locs : (roots : List TileRoot) → OneOf (AreLocs roots)
  pub nodes : (pins : ℕ → ℕ → ℕ → Option FoundPin) (es : List Elem) → IsPart (IsNodeRefused pins es) (SaysNodes pins es)
  pub edges : (known : Known) (es : List Elem) → IsPart (RefusesEdges known es) (SaysEdges known es)
  pub graph : (nodes : List CarriedNode) (edges : List NodeEdge) → OneOf (IsGraphOf nodes edges)

module _ (given : Given) where
  -- the bytes

  text_one : (bytes : List ℕ) → OneOf (RefusesText bytes)
  text_one bytes elem.NotUtf8 elem.NotUtf8 a b = refl
  text_one bytes elem.NotUtf8 elem.Deep a b = absurd (a.refused b.refused.0)
  text_one bytes elem.NotUtf8 (elem.Broken q) a b = absurd (a.refused b.refused.0)
  text_one bytes elem.Deep elem.NotUtf8 a b = absurd (b.refused a.refused.0)
  text_one bytes elem.Deep elem.Deep a b = refl
  text_one bytes elem.Deep (elem.Broken q) a b = absurd (given.deep bytes q b.refused.1 a.refused.1)
  text_one bytes (elem.Broken p) elem.NotUtf8 a b = absurd (b.refused a.refused.0)
  text_one bytes (elem.Broken p) elem.Deep a b = absurd (given.deep bytes p a.refused.1 b.refused.1)
  text_one bytes (elem.Broken p) (elem.Broken q) a b = ap elem.Broken (given.one_place bytes p q a.refused.1 b.refused.1)
  text_one bytes elem.OutOfMemory e a b = absurd (a.memory refl)
  text_one bytes d elem.OutOfMemory a b = absurd (b.memory refl)

  text_apart : (bytes : List ℕ) (root : Elem) (e : ElemError) → SpellsRoot bytes root → RefusesText bytes e → ⊥
  text_apart bytes root elem.NotUtf8 s r = r.refused s.spells.utf8
  text_apart bytes root elem.Deep s r = s.shallow r.refused.1
  text_apart bytes root (elem.Broken place) s r = given.spelled bytes place root r.refused.1 s.spells
  text_apart bytes root elem.OutOfMemory s r = r.memory refl

  text_part : (bytes : List ℕ) → IsPart (RefusesText bytes) (SpellsRoot bytes)
  text_part bytes = record {
    fails_one = text_one bytes;
    says_one = λ a b s t. given.one_element bytes a b s.spells t.spells;
    apart = text_apart bytes;
  }

  -- the layout

  module _ (tiles : List Tile) (root : Elem) where
    types_part : IsPart (IsTold (IsTypeRefused tiles root) error_of_place) (AreTypes tiles root)
    types_part = told_part (IsTypeRefused tiles root) (AreTypes tiles root) error_of_place (given.types tiles root)

    grid_part : (types : List NumberedType) → IsPart (IsTold (IsGridRefused (knows_type types) (grid_elems root)) error_of_grid) (SaysGrid (knows_type types) (grid_elems root))
    grid_part types = told_part (IsGridRefused (knows_type types) (grid_elems root)) (SaysGrid (knows_type types) (grid_elems root)) error_of_grid (given.grid (knows_type types) (grid_elems root))

    grid_one : (types : List NumberedType) → OneOf (GridFails tiles root types)
    grid_one types =
        one_or (IsTold (IsGridRefused (knows_type types) (grid_elems root)) error_of_grid) (SaysGrid (knows_type types) (grid_elems root)) (AreTooMany tiles types) (grid_part types)
        (λ places x y a b. a.told ∙ sym b.told)

    layout_one : OneOf (LayoutFails tiles root)
    layout_one = one_or (IsTold (IsTypeRefused tiles root) error_of_place) (AreTypes tiles root) (GridFails tiles root) types_part grid_one

    layout_apart : (l : LayoutParts) (e : RrError) → SaysLayout tiles root l → LayoutFails tiles root e → ⊥
    layout_apart l e says =
        or_apart (IsTold (IsTypeRefused tiles root) error_of_place) (AreTypes tiles root) (GridFails tiles root) types_part l.types says.types e
        (or_apart (IsTold (IsGridRefused (knows_type l.types) (grid_elems root)) error_of_grid) (SaysGrid (knows_type l.types) (grid_elems root)) (AreTooMany tiles l.types) (grid_part l.types) l.places says.grid e
        (λ many. (let low = says.locs.few in omega (arith, many.many, low))))

    one_layout : OneOf (SaysLayout tiles root)
    one_layout l m s t =
        let types = types_part.says_one l.types m.types s.types t.types in
        let places = (grid_part m.types).says_one l.places m.places (subst (λ ts. SaysGrid (knows_type ts) (grid_elems root) l.places) types s.grid) t.grid in
        let locs = given.locs (roots_of tiles m.types m.places) l.locs m.locs
        (subst (λ ps. AreLocs (roots_of tiles m.types ps) l.locs) places (subst (λ ts. AreLocs (roots_of tiles ts l.places) l.locs) types s.locs.are)) t.locs.are in
        ap (λ v. made v l.places l.locs) types ∙ (ap (λ v. made m.types v l.locs) places ∙ ap (made m.types m.places) locs)
      where
        made : List NumberedType → List GridPlace → List LocAt → LayoutParts
        made types places locs = record { types = types; places = places; locs = locs }

    layout_part : IsPart (LayoutFails tiles root) (SaysLayout tiles root)
    layout_part = record { fails_one = layout_one; says_one = one_layout; apart = layout_apart }

    -- nodes and edges

    nodes_part : (l : LayoutParts) → IsPart (IsTold (IsNodeRefused (pin_of l) (node_elems root)) error_of_node) (SaysNodes (pin_of l) (node_elems root))
    nodes_part l = told_part (IsNodeRefused (pin_of l) (node_elems root)) (SaysNodes (pin_of l) (node_elems root)) error_of_node (given.nodes (pin_of l) (node_elems root))

    edges_part : (switches : List Switch) (nodes : List PlacedNode) → IsPart (EdgesFail root switches nodes) (SaysEdges (known_of nodes switches) (edges_of root))
    edges_part switches nodes =
        told_part (RefusesEdges (known_of nodes switches) (edges_of root)) (SaysEdges (known_of nodes switches) (edges_of root)) error_of_edge (given.edges (known_of nodes switches) (edges_of root))

    nodes_one : (switches : List Switch) (l : LayoutParts) → OneOf (NodesFail root switches l)
    nodes_one switches l =
        one_or (IsTold (IsNodeRefused (pin_of l) (node_elems root)) error_of_node) (SaysNodes (pin_of l) (node_elems root)) (EdgesFail root switches) (nodes_part l)
        (λ nodes. (edges_part switches nodes).fails_one)

    body_one : (switches : List Switch) → OneOf (BodyFails tiles root switches)
    body_one switches = one_or (LayoutFails tiles root) (SaysLayout tiles root) (NodesFail root switches) layout_part (nodes_one switches)

    switches_part : IsPart (IsTold (IsSwitchRefused root) error_of_place) (AreSwitches root)
    switches_part = told_part (IsSwitchRefused root) (AreSwitches root) error_of_place (given.switches root)

    root_one : OneOf (RootFails tiles root)
    root_one x y (inl a) (inl b) = a.told ∙ sym b.told
    root_one x y (inl a) (inr b) = absurd (a.other b.0)
    root_one x y (inr a) (inl b) = absurd (b.other a.0)
    root_one x y (inr a) (inr b) = one_or (IsTold (IsSwitchRefused root) error_of_place) (AreSwitches root) (BodyFails tiles root) switches_part body_one x y a.1 b.1

    one_says : OneOf (SaysGraph tiles root)
    one_says g h s t =
        let switches = switches_part.says_one s.switches t.switches s.are_switches t.are_switches in
        let layout = one_layout g.layout h.layout s.layout t.layout in
        let nodes = (nodes_part h.layout).says_one g.nodes h.nodes (subst (λ l. SaysNodes (pin_of l) (node_elems root) g.nodes) layout s.nodes) t.nodes in
        let edges = (edges_part t.switches h.nodes).says_one g.edges h.edges
        (subst (λ ns. SaysEdges (known_of ns t.switches) (edges_of root) g.edges) nodes (subst (λ ss. SaysEdges (known_of g.nodes ss) (edges_of root) g.edges) switches s.edges)) t.edges in
        let wires = given.graph (carried h.nodes) (node_edges h.edges) g.wires h.wires
        (subst (λ es. IsGraphOf (carried h.nodes) (node_edges es) g.wires) edges (subst (λ ns. IsGraphOf (carried ns) (node_edges g.edges) g.wires) nodes s.wires)) t.wires in
        ap (λ v. made v g.nodes g.edges g.wires) layout ∙ (ap (λ v. made h.layout v g.edges g.wires) nodes ∙ (ap (λ v. made h.layout h.nodes v g.wires) edges ∙ ap (made h.layout h.nodes h.edges) wires))
      where
        made : LayoutParts → List PlacedNode → List FileEdge → WireGraph → GraphParts
        made layout nodes edges wires = record { layout = layout; nodes = nodes; edges = edges; wires = wires }

    root_apart : (g : GraphParts) (e : RrError) → SaysGraph tiles root g → RootFails tiles root e → ⊥
    root_apart g e s (inl a) = a.other s.is_graph
    root_apart g e s (inr b) =
        or_apart (IsTold (IsSwitchRefused root) error_of_place) (AreSwitches root) (BodyFails tiles root) switches_part s.switches s.are_switches e
        (or_apart (LayoutFails tiles root) (SaysLayout tiles root) (NodesFail root s.switches) layout_part g.layout s.layout e
        (or_apart (IsTold (IsNodeRefused (pin_of g.layout) (node_elems root)) error_of_node) (SaysNodes (pin_of g.layout) (node_elems root)) (EdgesFail root s.switches) (nodes_part g.layout) g.nodes s.nodes e
        ((edges_part s.switches g.nodes).apart g.edges e s.edges))) b.1

  -- the file

  told_text : (bytes : List ℕ) → IsPart (IsTold (RefusesText bytes) error_of_elem) (SpellsRoot bytes)
  told_text bytes = told_part (RefusesText bytes) (SpellsRoot bytes) error_of_elem (text_part bytes)

  pub one_refusal : (tiles : List Tile) (bytes : List ℕ) → OneOf (IsRefused tiles bytes)
  one_refusal tiles bytes = one_or (IsTold (RefusesText bytes) error_of_elem) (SpellsRoot bytes) (RootFails tiles) (told_text bytes) (root_one tiles)

  pub one_graph : (tiles : List Tile) (bytes : List ℕ) → OneOf (SpellsGraph tiles bytes)
  one_graph tiles bytes g h s t =
      one_says tiles t.root g h (subst (λ r. SaysGraph tiles r g) (given.one_element bytes s.root t.root s.spells.spells t.spells.spells) s.says) t.says

  pub never_both : (tiles : List Tile) (bytes : List ℕ) (g : GraphParts) (e : RrError) → SpellsGraph tiles bytes g → IsRefused tiles bytes e → ⊥
  never_both tiles bytes g e s =
      or_apart (IsTold (RefusesText bytes) error_of_elem) (SpellsRoot bytes) (RootFails tiles) (told_text bytes) s.root s.spells e (root_apart tiles s.root g e s.says)
