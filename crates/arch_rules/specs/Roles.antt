-- What an element of an architecture file is, by what it stands in and by its name (VTR
-- architecture reference, "Top level tags" to "Complex blocks").
use Rattle.std.specs.Prelude.{ℕ, Bool, true, false, if◌then◌else◌, List, [], ◌∷◌, Option, Some, None, codes}
use Rattle.std.specs.Str.{bytes_eq}
use Rattle.arch_rules.specs.declared.role.Role.{Role}
use Rattle.arch_rules.specs.declared.role.Sort.{Sort}
use Rattle.arch_rules.specs.declared.role.Sort.TheVariants.{Units, Ports, Modes}
use Rattle.arch_rules.specs.declared.role.Role.TheVariants.{File, Architecture, Models, Model, ModelPorts, ModelPort, Tiles, Tile, SubTile, Sites, Site, TilePort, Layouts, FixedLayout, Single, Region, Blocks, Block, PbType, Port, Mode, Interconnect, Inter, Pattern, Metadata, Meta, Carried, Unknown, Foreign}

-- a name that is this word has the one role, and any other the other
abbrev pub either : List ℕ → List ℕ → Role → Role → Role
either name word role other = if bytes_eq name word then role else other

-- what stands in a pb_type, a mode, an interconnect or one of its kinds and isn't read; anything
-- else there is unknown
abbrev pub carried : List ℕ → Role
carried name =
    either name (codes "power") Carried (either name (codes "T_setup") Carried (either name (codes "T_hold") Carried
    (either name (codes "T_clock_to_Q") Carried (either name (codes "delay_constant") Carried (either name (codes "delay_matrix") Carried
    (either name (codes "C_constant") Carried (either name (codes "C_matrix") Carried (either name (codes "fc") Carried
    (either name (codes "pinlocations") Carried Unknown)))))))))

-- `input`, `output` or `clock`
abbrev pub port_or : List ℕ → Role → Role → Role
port_or name port other = either name (codes "input") port (either name (codes "output") port (either name (codes "clock") port other))

-- what stands in a pb_type
abbrev pub in_pb_type : List ℕ → Role
in_pb_type name =
    port_or name Port (either name (codes "mode") Mode (either name (codes "pb_type") PbType
    (either name (codes "interconnect") Interconnect (either name (codes "metadata") Metadata (carried name)))))

-- the role of a child by the role of its parent and its own name
abbrev pub row : Role → List ℕ → Role
row File name = either name (codes "architecture") Architecture Foreign
row Architecture name =
    either name (codes "models") Models (either name (codes "tiles") Tiles
    (either name (codes "layout") Layouts (either name (codes "complexblocklist") Blocks Carried)))
row Models name = either name (codes "model") Model Carried
row Model name = either name (codes "input_ports") ModelPorts (either name (codes "output_ports") ModelPorts Carried)
row ModelPorts name = either name (codes "port") ModelPort Carried
row Tiles name = either name (codes "tile") Tile Carried
row Tile name = either name (codes "sub_tile") SubTile Carried
row SubTile name = either name (codes "equivalent_sites") Sites (port_or name TilePort Carried)
row Sites name = either name (codes "site") Site Carried
row Layouts name = either name (codes "fixed_layout") FixedLayout Carried
row FixedLayout name = either name (codes "single") Single Region
row Single name = either name (codes "metadata") Metadata Carried
row Blocks name = either name (codes "pb_type") Block Carried
row Block name = in_pb_type name
row PbType name = in_pb_type name
row Mode name =
    either name (codes "pb_type") PbType (either name (codes "interconnect") Interconnect
    (either name (codes "metadata") Metadata (carried name)))
row Interconnect name =
    either name (codes "direct") Inter (either name (codes "complete") Inter (either name (codes "mux") Inter (carried name)))
row Inter name = either name (codes "pack_pattern") Pattern (either name (codes "metadata") Metadata (carried name))
row Metadata name = either name (codes "meta") Meta Carried
row _ name = Carried

-- the same, but for a file that is to be included, which may stand nowhere
abbrev pub role_in : Role → List ℕ → Role
role_in parent name = either name (codes "xi:include") Foreign (row parent name)

-- the attributes that an element has to have, in the order in which they are looked for
abbrev pub required : Role → List (List ℕ)
required Model = codes "name" ∷ []
required ModelPort = codes "name" ∷ []
required Tile = codes "name" ∷ []
required SubTile = codes "name" ∷ []
required Site = codes "pb_type" ∷ []
required TilePort = codes "name" ∷ codes "num_pins" ∷ []
required FixedLayout = codes "width" ∷ codes "height" ∷ []
required Single = codes "type" ∷ codes "x" ∷ codes "y" ∷ codes "priority" ∷ []
required Block = codes "name" ∷ []
required PbType = codes "name" ∷ []
required Port = codes "name" ∷ codes "num_pins" ∷ []
required Mode = codes "name" ∷ []
required Inter = codes "name" ∷ codes "input" ∷ codes "output" ∷ []
required Pattern = codes "name" ∷ codes "in_port" ∷ codes "out_port" ∷ []
required Meta = codes "name" ∷ []
required _ = []

-- the attribute that holds a count
abbrev pub counted : Role → Option (List ℕ)
counted SubTile = Some (codes "capacity")
counted TilePort = Some (codes "num_pins")
counted Block = Some (codes "num_pb")
counted PbType = Some (codes "num_pb")
counted Port = Some (codes "num_pins")
counted _ = None

-- the sort of a role: no two siblings of one sort have one name
abbrev pub sort_of : Role → Option Sort
sort_of Model = Some Units
sort_of Tile = Some Units
sort_of TilePort = Some Ports
sort_of Block = Some Units
sort_of PbType = Some Units
sort_of Port = Some Ports
sort_of Mode = Some Modes
sort_of _ = None

-- a block type, or a pb_type in one
abbrev pub is_pb_type : Role → Bool
is_pb_type Block = true
is_pb_type PbType = true
is_pb_type _ = false
