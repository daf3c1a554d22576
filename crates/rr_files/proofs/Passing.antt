-- Errors of parts, as errors of the file.
use Rattle.std.proofs.Common.{◌≡◌, ◌<◌, ◌⊎◌, ℕ, List, sym, ap, ◌∙◌, subst, refl, inl, inr}
use Rattle.std.specs.Prelude.{Result, MatchResult}
use Rattle.std.specs.Result.{IsErrAnd}
use Rattle.std.proofs.lemmas.Result.{err_from_is_err_and}
use Rattle.elem_text.specs.declared.elem.Elem.{Elem}
use Rattle.elem_text.specs.declared.error.ElemError.{ElemError}
use Rattle.elem_text.specs.declared.error.ElemError.TheVariants as elem
use Rattle.elem_text.specs.Refusals.{Refuses as RefusesBytes}
use Rattle.arch_types.specs.declared.arch.Tile.{Tile}
use Rattle.rr_items.specs.declared.grid.GridPlace.{GridPlace}
use Rattle.rr_items.specs.declared.switches.Switch.{Switch}
use Rattle.rr_places.specs.declared.error.PlaceError.{PlaceError}
use Rattle.rr_places.specs.declared.error.PlaceError.TheVariants as place
use Rattle.rr_places.specs.Switches.{AreSwitches, IsSwitchRefused}
use Rattle.rr_places.specs.Types.{NumberedType, AreTypes, IsTypeRefused}
use Rattle.rr_grid.specs.declared.error.GridError.{GridError}
use Rattle.rr_grid.specs.declared.error.GridError.TheVariants as grid
use Rattle.rr_grid.specs.Saying.{SaysGrid}
use Rattle.rr_grid.specs.Refusing.{IsRefused as IsGridRefused}
use Rattle.rr_locs.specs.declared.error.LocsError.{LocsError}
use Rattle.rr_locs.specs.declared.error.LocsError.TheVariants as locs
use Rattle.rr_nodes.specs.declared.error.NodeError.{NodeError}
use Rattle.rr_nodes.specs.declared.error.NodeError.TheVariants as node
use Rattle.rr_nodes.specs.declared.placed.PlacedNode.{PlacedNode}
use Rattle.rr_nodes.specs.Saying.{SaysNodes}
use Rattle.rr_nodes.specs.Refusing.{IsRefused as IsNodeRefused}
use Rattle.rr_edges.specs.declared.error.EdgeError.{EdgeError}
use Rattle.rr_edges.specs.declared.error.EdgeError.TheVariants as edge
use Rattle.rr_edges.specs.FileEdges.{edges_of, Refuses as RefusesEdges}
use Rattle.rr_tables.specs.Looks.{LayoutParts, knows_type, pin_of, known_of}
use Rattle.rr_tables.specs.Roots.{roots_of}
use Rattle.rr_files.specs.declared.error.RrError.{RrError}
use Rattle.rr_files.specs.declared.error.RrError.TheVariants.{OutOfMemory}
use Rattle.rr_files.specs.Saying.{IsGraphRoot, grid_elems, node_elems, summed, SaysLayout}
use Rattle.rr_files.specs.Refusing.{error_of_elem, error_of_place, error_of_grid, error_of_locs, error_of_node, error_of_edge, IsTold, LayoutFails, RootFails, IsRefused}

abbrev pub OrShort : (RrError → Type 0) → RrError → Type 0
OrShort Fails error = (error ≡ OutOfMemory) ⊎ Fails error

-- what holds of an error holds where it is passed on
pub passed : {T : Type 0} (P : T → Type 0) (Q : RrError → Type 0) (r : Result T RrError) (e : RrError) → IsErrAnd r (λ y. y ≡ e) → Q e → MatchResult r P Q
passed P Q r e is holds =
    let p = err_from_is_err_and r is in
    subst (λ x. MatchResult x P Q) (sym p.1) (subst Q (sym p.2) holds)

-- a part's refusal is one of the file, and so is want of memory
pub or_told : {E : Type 0} (tell : E → RrError) (memory : E) → tell memory ≡ OutOfMemory → (Refuses : E → Type 0) (Fails : RrError → Type 0) (d : E) →
    (IsTold Refuses tell (tell d) → Fails (tell d)) → (d ≡ memory) ⊎ Refuses d → OrShort Fails (tell d)
or_told tell memory short Refuses Fails d fails (inl is) = inl (ap tell is ∙ short)
or_told tell memory short Refuses Fails d fails (inr refused) = inr (fails (record { cause = d; refused = refused; told = refl }))

-- bytes that are no element
pub text_told : (tiles : List Tile) (bytes : List ℕ) (d : ElemError) → RefusesBytes bytes d → OrShort (IsRefused tiles bytes) (error_of_elem d)
text_told tiles bytes elem.NotUtf8 refused = inr (inl (record { cause = elem.NotUtf8; refused = record { refused = refused; memory = λ e. absurd (cc) }; told = refl }))
text_told tiles bytes elem.Deep refused = inr (inl (record { cause = elem.Deep; refused = record { refused = refused; memory = λ e. absurd (cc) }; told = refl }))
text_told tiles bytes (elem.Broken at) refused = inr (inl (record { cause = elem.Broken at; refused = record { refused = refused; memory = λ e. absurd (cc) }; told = refl }))
text_told tiles bytes elem.OutOfMemory refused = inl refl

module _ (tiles : List Tile) (root : Elem) where
  -- the layout

  pub types_told : (d : PlaceError) → (d ≡ place.OutOfMemory) ⊎ IsTypeRefused tiles root d → OrShort (LayoutFails tiles root) (error_of_place d)
  types_told d refused = or_told error_of_place place.OutOfMemory refl (IsTypeRefused tiles root) (LayoutFails tiles root) d (λ told. inl told) refused

  module _ (types : List NumberedType) (read : AreTypes tiles root types) where
    pub grid_told : (d : GridError) → (d ≡ grid.OutOfMemory) ⊎ IsGridRefused (knows_type types) (grid_elems root) d → OrShort (LayoutFails tiles root) (error_of_grid d)
    grid_told d refused =
        or_told error_of_grid grid.OutOfMemory refl (IsGridRefused (knows_type types) (grid_elems root)) (LayoutFails tiles root) d
        (λ told. inr (record { value = types; says = read; fails = inl told })) refused

    pub locs_told : (places : List GridPlace) → SaysGrid (knows_type types) (grid_elems root) places → (d : LocsError) →
        (d ≡ locs.OutOfMemory) ⊎ ((d ≡ locs.TooMany) × (1048576 < summed (roots_of tiles types places))) → OrShort (LayoutFails tiles root) (error_of_locs d)
    locs_told places says d (inl short) = inl (ap error_of_locs short)
    locs_told places says d (inr many) =
        inr (inr (record { value = types; says = read; fails = inr (record { value = places; says = says; fails = record { many = many.1; told = ap error_of_locs many.0 } }) }))

  -- the whole

  module _ (is_graph : IsGraphRoot root) where
    pub switches_told : (d : PlaceError) → (d ≡ place.OutOfMemory) ⊎ IsSwitchRefused root d → OrShort (RootFails tiles root) (error_of_place d)
    switches_told d refused = or_told error_of_place place.OutOfMemory refl (IsSwitchRefused root) (RootFails tiles root) d (λ told. inr (is_graph, inl told)) refused

    module _ (switches : List Switch) (read : AreSwitches root switches) where
      pub layout_told : (e : RrError) → OrShort (LayoutFails tiles root) e → OrShort (RootFails tiles root) e
      layout_told e (inl short) = inl short
      layout_told e (inr fails) = inr (inr (is_graph, inr (record { value = switches; says = read; fails = inl fails })))

      module _ (l : LayoutParts) (says : SaysLayout tiles root l) where
        pub nodes_told : (d : NodeError) → (d ≡ node.OutOfMemory) ⊎ IsNodeRefused (pin_of l) (node_elems root) d → OrShort (RootFails tiles root) (error_of_node d)
        nodes_told d refused =
            or_told error_of_node node.OutOfMemory refl (IsNodeRefused (pin_of l) (node_elems root)) (RootFails tiles root) d
            (λ told. inr (is_graph, inr (record { value = switches; says = read; fails = inr (record { value = l; says = says; fails = inl told }) }))) refused

        pub edges_told : (nodes : List PlacedNode) → SaysNodes (pin_of l) (node_elems root) nodes → (d : EdgeError) →
            (d ≡ edge.OutOfMemory) ⊎ RefusesEdges (known_of nodes switches) (edges_of root) d → OrShort (RootFails tiles root) (error_of_edge d)
        edges_told nodes said d refused =
            or_told error_of_edge edge.OutOfMemory refl (RefusesEdges (known_of nodes switches) (edges_of root)) (RootFails tiles root) d
            (λ told. inr (
              is_graph,
              inr (record {
                value = switches;
                says = read;
                fails = inr (record {
                  value = l;
                  says = says;
                  fails = inr (record { value = nodes; says = said; fails = told });
                });
              }),
            )) refused
