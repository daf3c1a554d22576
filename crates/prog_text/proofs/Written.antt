-- How an instance is written, from how its parent is.
use Rattle.std.proofs.Common.{◌≡◌, ◌<◌, ℕ, List, [], ◌∷◌, ◌++◌, length, get_or, Option, Some, None, refl, sym, ap, ◌∙◌, subst, append_assoc, append-nil}
use Rattle.std.specs.Prelude.{slice_get, IsSome}
use Rattle.std.specs.Option.{option_map, option_map_or, option_and_then}
use Rattle.arch_types.specs.declared.block.PbType.{PbType}
use Rattle.std.proofs.lemmas.Option.{slice_get-get_or}
use Rattle.arch_types.specs.declared.block.Port.{Port}
use Rattle.arch_types.specs.Tree.{modes_of, name_of_mode}
use Rattle.arch_types.specs.Address.{Address, Hop, at, child_at}
use Rattle.pb_expand.specs.declared.number.Step.{Step}
use Rattle.pb_expand.specs.Graph.{Graph, LeadsTo, hop_of, block_at, mode_at}
use Rattle.pb_expand.specs.declared.number.PinAt.{PinAt}
use Rattle.pb_expand.specs.declared.number.Edge.{Edge}
use Rattle.pb_expand.specs.Expansion.{IsExpansion, IsPin, IsEdgeOf}
use Rattle.pb_expand.proofs.Lists.{has_at}
use Rattle.pb_expand.proofs.Blocks.{Takes, takes, mode_is, has_block, child_there, block_below, some_inside}
use Rattle.prog_text.specs.Names.{step_text, steps_text, mode_text, instance_name, port_text}
use Rattle.prog_map.specs.Leaves.{port_at}
use Rattle.prog_map.proofs.Climbs.{some_injective}
use Rattle.prog_map.proofs.Instances.{down}

-- one step more is written behind the others
pub steps_more : (root : PbType) (front : Address) (hop : Hop) (block : PbType) (kid : PbType) → at root front ≡ Some block → child_at block hop ≡ Some kid →
    steps_text root (front ++ hop ∷ []) ≡ steps_text root front ++ step_text (mode_text block hop.mode) kid.name hop.instance
steps_more root [] hop block kid is_block is_kid =
    let e : child_at root hop ≡ Some kid = ap (λ b. child_at b hop) (some_injective is_block) ∙ is_kid in
    let same : root ≡ block = some_injective is_block in
    ap (λ o. option_map_or (λ (k : PbType). step_text (mode_text root hop.mode) k.name hop.instance ++ []) o []) e
    ∙ append-nil _
    ∙ ap (λ b. step_text (mode_text b hop.mode) kid.name hop.instance) same
steps_more root (h ∷ front) hop block kid is_block is_kid =
    through (λ k is. steps_more k front hop block kid is is_kid) (child_at root h) is_block
  where
    through : ((k : PbType) → at k front ≡ Some block →
        steps_text k (front ++ hop ∷ []) ≡ steps_text k front ++ step_text (mode_text block hop.mode) kid.name hop.instance) →
        (o : Option PbType) → option_and_then (λ (k : PbType). at k front) o ≡ Some block →
        option_map_or (λ (k : PbType). step_text (mode_text root h.mode) k.name h.instance ++ steps_text k (front ++ hop ∷ [])) o []
        ≡ option_map_or (λ (k : PbType). step_text (mode_text root h.mode) k.name h.instance ++ steps_text k front) o []
        ++ step_text (mode_text block hop.mode) kid.name hop.instance
    through rest None is = cc
    through rest (Some k) is =
        ap (λ t. step_text (mode_text root h.mode) k.name h.instance ++ t) (rest k is)
        ∙ sym (append_assoc (step_text (mode_text root h.mode) k.name h.instance) (steps_text k front) (step_text (mode_text block hop.mode) kid.name hop.instance))

pub instance_is : (g : Graph) (s : Step) (n : ℕ) (mode child : List ℕ) → IsExpansion g → LeadsTo g.instances s n →
    option_map name_of_mode (mode_at g s.parent.0 s.mode) ≡ Some mode → option_map (λ (b : PbType). b.name) (block_at g n) ≡ Some child →
    instance_name g n ≡ instance_name g s.parent.0 ++ step_text mode child s.instance
instance_is g s n mode child law to is_mode is_child =
    let d = down g s n law to in
    let written : Option Address → List ℕ = λ o. option_map_or (λ (a : Address). g.root.name ++ steps_text g.root a) o [] in
    let at_parent : at g.root to.parent ≡ Some d.parent = sym (ap (option_and_then (λ (a : Address). at g.root a)) to.is_parent) ∙ d.is_parent in
    let named : mode_at g s.parent.0 s.mode ≡ Some d.takes.mode =
    mode_is g s.parent.0 s.mode d.parent (modes_of d.parent.kind) d.is_parent refl ∙ d.takes.is_mode in
    let mode_same : mode_text d.parent s.mode ≡ mode =
    ap (λ o. option_map_or name_of_mode o []) d.takes.is_mode ∙ some_injective (sym (ap (option_map name_of_mode) named) ∙ is_mode) in
    let child_same : d.takes.kid.name ≡ child = some_injective (sym (ap (option_map (λ (b : PbType). b.name)) d.is_kid) ∙ is_child) in
    ap written to.is_child
    ∙ ap (λ t. g.root.name ++ t) (steps_more g.root to.parent (hop_of s) d.parent d.takes.kid at_parent d.takes.is)
    ∙ ap (λ m. g.root.name ++ (steps_text g.root to.parent ++ step_text m d.takes.kid.name s.instance)) mode_same
    ∙ ap (λ k. g.root.name ++ (steps_text g.root to.parent ++ step_text mode k s.instance)) child_same
    ∙ sym (append_assoc g.root.name (steps_text g.root to.parent) (step_text mode child s.instance))
    ∙ ap (λ t. t ++ step_text mode child s.instance) (sym (ap written to.is_parent))

-- the port of a pin, read off the ports of its instance
pub port_read : (g : Graph) (pin : PinAt) (ports : List Port) → option_map (λ (b : PbType). b.ports) (block_at g pin.pb.0) ≡ Some ports →
    port_at g pin ≡ slice_get ports pin.port
port_read g pin ports is = by_block (block_at g pin.pb.0) refl is
  where
    by_block : (o : Option PbType) → block_at g pin.pb.0 ≡ o → option_map (λ (b : PbType). b.ports) o ≡ Some ports → port_at g pin ≡ slice_get ports pin.port
    by_block None e f = cc
    by_block (Some block) e f =
        ap (option_and_then (λ (b : PbType). slice_get b.ports pin.port)) e ∙ ap (λ ps. slice_get ps pin.port) (some_injective f)

pub port_inside : (g : Graph) (pin : PinAt) (ports : List Port) → option_map (λ (b : PbType). b.ports) (block_at g pin.pb.0) ≡ Some ports →
    IsSome (port_at g pin) → pin.port < length ports
port_inside g pin ports is there = some_inside ports pin.port (subst (λ o. IsSome o) (port_read g pin ports is) there)

pub port_named : (g : Graph) (pin : PinAt) (ports : List Port) (port : Port) → option_map (λ (b : PbType). b.ports) (block_at g pin.pb.0) ≡ Some ports →
    IsSome (port_at g pin) → port ≡ get_or ports pin.port port → port_text g pin ≡ port.name
port_named g pin ports port is there read =
    ap (λ o. option_map_or (λ (p : Port). p.name) o [])
    (port_read g pin ports is ∙ slice_get-get_or ports pin.port port (port_inside g pin ports is there) ∙ ap Some (sym read))

-- the mode of an edge is there
pub edge_mode_there : (g : Graph) (number : ℕ) (edge : Edge) → IsExpansion g → slice_get g.edges number ≡ Some edge →
    IsSome (mode_at g edge.owner.0 edge.mode)
edge_mode_there g number edge law there =
    let e : IsEdgeOf g edge = law.has_edges.each edge (has_at g.edges number edge there) in
    let is_block : block_at g edge.owner.0 ≡ Some e.block = ap (option_and_then (λ (a : Address). at g.root a)) e.is_owner ∙ e.is_block in
    let is : mode_at g edge.owner.0 edge.mode ≡ Some e.mode =
    mode_is g edge.owner.0 edge.mode e.block (modes_of e.block.kind) is_block refl ∙ e.is_mode in
    subst (λ o. IsSome o) (sym is) refl
