-- The parts that were read, joined.
use Rattle.std.proofs.Common.{◌≡◌, ◌<◌, ◌+◌, ◌++◌, ◌⊎◌, ℕ, List, [], ◌∷◌, length, take, get_or, add-one, sym, ap, ◌∙◌, subst, inl, inr}
use Rattle.std.specs.Prelude.{Result, Ok, Err, MatchResult}
use Rattle.std.proofs.Math.Seq.{take-suc}
use Rattle.std.proofs.lemmas.List.{map-append}
use Rattle.vtr_base.specs.Lists.{Has}
use Rattle.list_laws.proofs.Members.{from_map}
use Rattle.elem_text.specs.declared.elem.Elem.{Elem}
use Rattle.arch_types.specs.declared.arch.Tile.{Tile}
use Rattle.rr_items.specs.declared.carriers.CarriedNode.{CarriedNode}
use Rattle.rr_items.specs.declared.switches.Switch.{Switch}
use Rattle.rr_places.specs.Switches.{AreSwitches}
use Rattle.rr_nodes.specs.declared.placed.PlacedNode.{PlacedNode}
use Rattle.rr_nodes.specs.Saying.{SaysNodes}
use Rattle.rr_edges.specs.declared.error.EdgeError.{EdgeError}
use Rattle.rr_edges.specs.declared.error.EdgeError.TheVariants as edge
use Rattle.rr_edges.specs.declared.kept.FileEdge.{FileEdge}
use Rattle.rr_edges.specs.FileEdges.{edges_of, SaysEdges, Refuses as RefusesEdges}
use Rattle.rr_wires.specs.declared.types.NodeEdge.{NodeEdge}
use Rattle.rr_wires.specs.Numbering.{WireGraph}
use Rattle.rr_wires.specs.Sound.{IsSound}
use Rattle.rr_wires.specs.Wires.{HasWiredEnds, IsGraphOf}
use Rattle.rr_tables.specs.Layouts.{IsLaidOn, IsLayout}
use Rattle.rr_tables.specs.Looks.{LayoutParts, pin_of, ways_of, known_of}
use Rattle.rr_files.specs.declared.error.RrError.{RrError}
use Rattle.rr_files.specs.Parts.{GraphParts, carried, node_edge, node_edges}
use Rattle.rr_files.specs.Refusing.{RootFails, IsRefused}
use Rattle.rr_files.specs.Saying.{IsGraphRoot, node_elems, SaysLayout, SaysGraph, SpellsRoot, SpellsGraph}
use Rattle.rr_files.specs.Sound.{IsSoundGraph}
use Rattle.rr_files.proofs.Passing.{OrShort}
use Rattle.rr_files.proofs.Sounding.{Rules, wired_ends, sound}

-- one edge more
pub edge_more : (xs : List FileEdge) (i : ℕ) (d : FileEdge) → i < length xs → (before after : List NodeEdge) → before ≡ node_edges (take i xs) →
    after ≡ before ++ node_edge (get_or xs i d) ∷ [] → after ≡ node_edges (take (i + 1) xs)
edge_more xs i d low before after was longer =
    longer ∙ ap (λ l. l ++ node_edge (get_or xs i d) ∷ []) was ∙
    sym (ap (λ n. node_edges (take n xs)) (add-one i) ∙ ap node_edges (take-suc xs i d low) ∙ map-append node_edge (take i xs) (get_or xs i d ∷ []))

-- the ends of edges without their features
pub plain_ends : (nodes : List CarriedNode) (edges : List FileEdge) → ((e : FileEdge) → Has edges e → HasWiredEnds nodes (node_edge e)) →
    (e : NodeEdge) → Has (node_edges edges) e → HasWiredEnds nodes e
plain_ends nodes edges wired e has =
    let from = from_map node_edge edges e has in
    subst (HasWiredEnds nodes) (sym from.is) (wired from.item from.has)

-- of the same nodes, switches and elements
pub same_refused : (n m : List PlacedNode) → n ≡ m → (s t : List Switch) → s ≡ t → (es fs : List Elem) → es ≡ fs → (e : EdgeError) →
    (e ≡ edge.OutOfMemory) ⊎ RefusesEdges (known_of n s) es e → (e ≡ edge.OutOfMemory) ⊎ RefusesEdges (known_of m t) fs e
same_refused n m nodes s t switches es fs elems e (inl short) = inl short
same_refused n m nodes s t switches es fs elems e (inr refused) =
    inr (subst (λ v. RefusesEdges (known_of m t) v e) elems (subst (λ v. RefusesEdges (known_of m v) es e) switches (subst (λ v. RefusesEdges (known_of v s) es e) nodes refused)))

pub same_said : (n m : List PlacedNode) → n ≡ m → (s t : List Switch) → s ≡ t → (es fs : List Elem) → es ≡ fs → (edges : List FileEdge) →
    SaysEdges (known_of n s) es edges → SaysEdges (known_of m t) fs edges
same_said n m nodes s t switches es fs elems edges said =
    subst (λ v. SaysEdges (known_of m t) v edges) elems (subst (λ v. SaysEdges (known_of m v) es edges) switches (subst (λ v. SaysEdges (known_of v s) es edges) nodes said))

module _ (rules : Rules) (tiles : List Tile) (root : Elem) (l : LayoutParts) (says : SaysLayout tiles root l × IsLaidOn tiles l) (switches : List Switch) (nodes : List PlacedNode)
    (said : SaysNodes (pin_of l) (node_elems root) nodes) (edges : List FileEdge) (edges_said : SaysEdges (known_of nodes switches) (edges_of root) edges) where
  layout : IsLayout l
  layout = record { tiles = tiles; laid = says.1 }

  pub all_ends : (es : List FileEdge) → es ≡ edges → (e : FileEdge) → Has es e → HasWiredEnds (carried nodes) (node_edge e)
  all_ends es same e has =
      wired_ends rules l layout (node_elems root) nodes said (ways_of switches) (edges_of root) edges edges_said e (subst (λ v. Has v e) same has)

  module _ (es : List FileEdge) (same : es ≡ edges) (wires : WireGraph) (of_es : IsGraphOf (carried nodes) (node_edges es) wires) where
    graph : IsGraphOf (carried nodes) (node_edges edges) wires
    graph = subst (λ v. IsGraphOf (carried nodes) (node_edges v) wires) same of_es

    pub sound_graph : IsSound wires → IsSoundGraph (record { layout = l; nodes = nodes; edges = edges; wires = wires })
    sound_graph is_sound = sound rules l layout (node_elems root) nodes said (ways_of switches) (edges_of root) edges edges_said wires graph is_sound

    pub says_graph : IsGraphRoot root → AreSwitches root switches → SaysGraph tiles root (record { layout = l; nodes = nodes; edges = edges; wires = wires })
    says_graph is_graph are = record {
      is_graph = is_graph;
      switches = switches;
      are_switches = are;
      layout = says.0;
      nodes = said;
      edges = edges_said;
      wires = graph;
    }

-- the file

pub whole : (tiles : List Tile) (bytes : List ℕ) (root : Elem) → SpellsRoot bytes root → (r : Result GraphParts RrError) →
    MatchResult r (SaysGraph tiles root) (OrShort (RootFails tiles root)) → MatchResult r (SpellsGraph tiles bytes) (OrShort (IsRefused tiles bytes))
whole tiles bytes root spells (Ok g) says = record { root = root; spells = spells; says = says }
whole tiles bytes root spells (Err e) (inl short) = inl short
whole tiles bytes root spells (Err e) (inr fails) = inr (inr (record { value = root; says = spells; fails = fails }))
