-- What an architecture file says (VTR architecture reference, "Top level tags", "Complex blocks",
-- "Grid layout", "Tiles"), read off its root element. It is defined for each element: one that no
-- architecture file may have says something too, which nobody reads. Elements and attributes that
-- aren't named here are unread.
use Rattle.std.specs.Prelude.{ℕ, ℤ, max, if◌then◌else◌, List, [], ◌∷◌, ◌++◌, Option, Some, None, map, drop, codes}
use Rattle.std.specs.List.{flat_map}
use Rattle.std.specs.Option.{option_map_or, option_and_then}
use Rattle.std.specs.Str.{bytes_eq}
use Rattle.arch_types.specs.declared.arch.ArchParts.{ArchParts}
use Rattle.arch_types.specs.declared.arch.CellModel.{CellModel}
use Rattle.arch_types.specs.declared.arch.Tile.{Tile}
use Rattle.arch_types.specs.declared.arch.Layout.{Layout}
use Rattle.arch_types.specs.declared.arch.Single.{Single}
use Rattle.arch_types.specs.declared.block.PbType.{PbType}
use Rattle.arch_types.specs.declared.block.Kind.{Kind}
use Rattle.arch_types.specs.declared.block.Kind.TheVariants as kind
use Rattle.arch_types.specs.declared.block.Mode.{Mode, roll-Mode}
use Rattle.arch_types.specs.declared.block.Port.{Port}
use Rattle.arch_types.specs.declared.block.Side.{Side}
use Rattle.arch_types.specs.declared.block.Side.TheVariants.{Input, Output, Clock}
use Rattle.arch_types.specs.declared.block.Inter.{Inter}
use Rattle.arch_types.specs.declared.block.InterKind.{InterKind}
use Rattle.arch_types.specs.declared.block.InterKind.TheVariants.{Direct, Complete, Mux}
use Rattle.arch_types.specs.declared.block.Pattern.{Pattern}
use Rattle.arch_types.specs.declared.block.Meta.{Meta}
use Rattle.arch_types.specs.Tree.{block_names}
use Rattle.arch_types.specs.Models.{model_names}
use Rattle.elem_text.specs.declared.elem.Attr.{Attr}
use Rattle.elem_text.specs.declared.elem.Elem.{Elem, Elem', Row_of-Elem, end_of-Elem, more_of-Elem, out-Elem}
use Rattle.elem_attrs.specs.Attributes.{value_of, attr_of, has_tag}
use Rattle.elem_attrs.specs.Numbers.{number_up_to, signed_number}
use Rattle.arch_build.specs.NamePlaces.{place_of}

abbrev pub inside : Elem → List Elem
inside e = (out-Elem e).kids

-- what the children of that name say together
abbrev pub within : {X : Type 0} → List ℕ → (Elem → List X) → Elem → List X
within name said e = if has_tag e name then flat_map said (inside e) else []

-- the number from 1 to 65,536 that the text spells; 1 where it spells none
abbrev pub count_of : List ℕ → ℕ
count_of text = option_map_or (λ n. max 1 n) (number_up_to 65536 text) 1

-- the same of an attribute; 1 where there is none
abbrev pub count_in : List Attr → List ℕ → ℕ
count_in attrs name = option_map_or count_of (value_of attrs name) 1

-- the number below 2^32 that an attribute holds, where it holds one
abbrev pub small_in : List Attr → List ℕ → Option ℕ
small_in attrs name = option_and_then (number_up_to 4294967295) (value_of attrs name)

abbrev pub zero_or : Option ℕ → ℕ
zero_or n = option_map_or (λ (m : ℕ). m) n 0

-- `model`: its name, and the names of its ports
abbrev pub said_port_name : Elem → List (List ℕ)
said_port_name e = if has_tag e (codes "port") then attr_of e (codes "name") ∷ [] else []

abbrev pub said_model : Elem → List CellModel
said_model e =
    if has_tag e (codes "model") then record {
      name = attr_of e (codes "name");
      ins = flat_map (within (codes "input_ports") said_port_name) (inside e);
      outs = flat_map (within (codes "output_ports") said_port_name) (inside e);
    } ∷ [] else []

abbrev pub said_models : Elem → List CellModel
said_models root = flat_map (within (codes "models") said_model) (inside root)

-- which way a port leads that the element is by its name
abbrev pub side_of : Elem → Option Side
side_of e =
    if has_tag e (codes "input") then Some Input
    else if has_tag e (codes "output") then Some Output
    else if has_tag e (codes "clock") then Some Clock else None

abbrev pub port_of : Option Side → Elem → List Port
port_of None e = []
port_of (Some side) e = record { name = attr_of e (codes "name"); side = side; width = count_in (out-Elem e).attrs (codes "num_pins") } ∷ []

abbrev pub said_port : Elem → List Port
said_port e = port_of (side_of e) e

abbrev pub said_meta : Elem → List Meta
said_meta e = if has_tag e (codes "meta") then record { name = attr_of e (codes "name"); text = (out-Elem e).text } ∷ [] else []

-- the metas of an owner that has these children
abbrev pub said_metas : List Elem → List Meta
said_metas elems = flat_map (within (codes "metadata") said_meta) elems

abbrev pub said_pattern : Elem → List Pattern
said_pattern e =
    if has_tag e (codes "pack_pattern") then record {
      name = attr_of e (codes "name");
      in_port = attr_of e (codes "in_port");
      out_port = attr_of e (codes "out_port");
    } ∷ [] else []

-- how the element joins pins by its name
abbrev pub inter_kind : Elem → Option InterKind
inter_kind e =
    if has_tag e (codes "direct") then Some Direct
    else if has_tag e (codes "complete") then Some Complete
    else if has_tag e (codes "mux") then Some Mux else None

abbrev pub inter_of : Option InterKind → Elem → List Inter
inter_of None e = []
inter_of (Some k) e = record {
  name = attr_of e (codes "name");
  kind = k;
  input = attr_of e (codes "input");
  output = attr_of e (codes "output");
  patterns = flat_map said_pattern (inside e);
  metas = said_metas (inside e);
} ∷ []

abbrev pub said_inter : Elem → List Inter
said_inter e = inter_of (inter_kind e) e

-- the interconnects of a mode that has these children, in file order
abbrev pub said_inters : List Elem → List Inter
said_inters elems = flat_map (within (codes "interconnect") said_inter) elems

-- the kind of a leaf by its `blif_model`; the model of a box is named behind `.subckt` and a space
abbrev pub leaf_kind : List (List ℕ) → List ℕ → Kind
leaf_kind models text =
    if bytes_eq text (codes ".input") then kind.InPad
    else if bytes_eq text (codes ".output") then kind.OutPad
    else if bytes_eq text (codes ".names") then kind.Lut
    else if bytes_eq text (codes ".latch") then kind.Latch
    else kind.Cell (place_of models (drop 8 text))

-- modes that are named, or the one mode `default` with these children and interconnects
abbrev pub modes_or_default : List Mode → List PbType → List Inter → List Mode
modes_or_default [] kids inters = roll-Mode (record { name = codes "default"; kids = kids; inters = inters; metas = [] }) ∷ []
modes_or_default (m ∷ modes) kids inters = m ∷ modes

abbrev pub kind_or_modes : List (List ℕ) → Option (List ℕ) → List Mode → Kind
kind_or_modes models (Some text) modes = leaf_kind models text
kind_or_modes models None modes = kind.Modes modes

-- the block that the element is by its name, with the modes and the blocks among its children
abbrev pub block_with : List (List ℕ) → Elem → List Mode → List PbType → List PbType
block_with models e modes kids =
    if has_tag e (codes "pb_type") then record {
      name = attr_of e (codes "name");
      count = count_in (out-Elem e).attrs (codes "num_pb");
      ports = flat_map said_port (inside e);
      kind = kind_or_modes models (value_of (out-Elem e).attrs (codes "blif_model")) (modes_or_default modes kids (said_inters (inside e)));
      metas = said_metas (inside e);
    } ∷ [] else []

-- the mode that the element is by its name, with the blocks among its children
abbrev pub mode_with : Elem → List PbType → List Mode
mode_with e kids =
    if has_tag e (codes "mode") then roll-Mode (record {
      name = attr_of e (codes "name");
      kids = kids;
      inters = said_inters (inside e);
      metas = said_metas (inside e);
    }) ∷ [] else []

-- what an element says as a block and as a mode, with all that stands in it
abbrev mutual
  pub said_block : List (List ℕ) → Elem → List PbType
  said_block models (Elem' name attrs text n kids place) =
      block_with models (Elem' name attrs text n kids place) (modes_among models kids) (blocks_among models kids)

  pub said_mode : List (List ℕ) → Elem → List Mode
  said_mode models (Elem' name attrs text n kids place) = mode_with (Elem' name attrs text n kids place) (blocks_among models kids)

  pub blocks_among : List (List ℕ) → {m : _} → Row_of-Elem m → List PbType
  blocks_among models end_of-Elem = []
  blocks_among models (more_of-Elem e rest) = said_block models e ++ blocks_among models rest

  pub modes_among : List (List ℕ) → {m : _} → Row_of-Elem m → List Mode
  modes_among models end_of-Elem = []
  modes_among models (more_of-Elem e rest) = said_mode models e ++ modes_among models rest

-- the block types of the file, in file order
abbrev pub said_blocks : List (List ℕ) → Elem → List PbType
said_blocks models root = flat_map (within (codes "complexblocklist") (said_block models)) (inside root)

-- a site by the number of its block type
abbrev pub said_site : List (List ℕ) → Elem → List ℕ
said_site blocks e = if has_tag e (codes "site") then place_of blocks (attr_of e (codes "pb_type")) ∷ [] else []

-- a tile by its one sub_tile
abbrev pub said_sub_tile : List (List ℕ) → List ℕ → Elem → List Tile
said_sub_tile blocks name e =
    if has_tag e (codes "sub_tile") then record {
      name = name;
      sub_name = attr_of e (codes "name");
      capacity = count_in (out-Elem e).attrs (codes "capacity");
      sites = flat_map (within (codes "equivalent_sites") (said_site blocks)) (inside e);
      ports = flat_map said_port (inside e);
    } ∷ [] else []

abbrev pub said_tile : List (List ℕ) → Elem → List Tile
said_tile blocks e = if has_tag e (codes "tile") then flat_map (said_sub_tile blocks (attr_of e (codes "name"))) (inside e) else []

abbrev pub said_tiles : List (List ℕ) → Elem → List Tile
said_tiles blocks root = flat_map (within (codes "tiles") (said_tile blocks)) (inside root)

-- the text of the first meta of this name; no bytes where there is none
abbrev pub text_named : List ℕ → List Meta → List ℕ
text_named name [] = []
text_named name (m ∷ metas) = if bytes_eq m.name name then m.text else text_named name metas

-- a `single` is read where its x, y and priority are plain numbers
abbrev pub single_at : Option ℕ → Option ℕ → Option ℤ → Elem → List Single
single_at (Some x) (Some y) (Some priority) e = record {
  tile = attr_of e (codes "type");
  x = x;
  y = y;
  priority = priority;
  prefix = text_named (codes "fasm_prefix") (said_metas (inside e));
} ∷ []
single_at x y priority e = []

abbrev pub said_single : Elem → List Single
said_single e =
    if has_tag e (codes "single") then single_at (small_in (out-Elem e).attrs (codes "x")) (small_in (out-Elem e).attrs (codes "y"))
    (option_and_then signed_number (value_of (out-Elem e).attrs (codes "priority"))) e
    else []

abbrev pub said_layout : Elem → List Layout
said_layout e =
    if has_tag e (codes "fixed_layout") then record {
      width = zero_or (small_in (out-Elem e).attrs (codes "width"));
      height = zero_or (small_in (out-Elem e).attrs (codes "height"));
      singles = flat_map said_single (inside e);
    } ∷ [] else []

abbrev pub said_layouts : Elem → List Layout
said_layouts root = flat_map (within (codes "layout") said_layout) (inside root)

abbrev pub said_with : List CellModel → List PbType → Elem → ArchParts
said_with models blocks root = record {
  models = models;
  tiles = said_tiles (block_names blocks) root;
  layouts = said_layouts root;
  blocks = blocks;
}

-- what the file says
abbrev pub said_arch : Elem → ArchParts
said_arch root = said_with (said_models root) (said_blocks (model_names (said_models root)) root) root
