-- The atoms of a model: one for each input, then one for each output, then one for each element.
use Rattle.std.specs.Prelude.{◌≡◌, ◌+◌, ℕ, Bool, true, false, List, [], ◌∷◌, ◌++◌, codes, map, filter, slice_index_or, if◌then◌else◌}
use Rattle.arch_types.specs.declared.block.AtomKind.TheVariants.{InPad, OutPad, Lut, Latch, Cell}
use Rattle.blif_items.specs.declared.elem.Elem.{Elem}
use Rattle.blif_items.specs.declared.elem.Elem.TheVariants as elem
use Rattle.blif_items.specs.declared.elem.PinAt.{PinAt}
use Rattle.net_types.specs.declared.atom.Atom.{Atom}
use Rattle.net_types.specs.declared.atom.Conn.{Conn}
use Rattle.net_types.specs.declared.parts.NetlistParts.{NetlistParts}
use Rattle.blif_parts.specs.declared.parts.ModelParts.{ModelParts}
use Rattle.blif_parts.specs.Adds.{out_name}

abbrev pub conn_at : List ℕ → ℕ → ℕ → Conn
conn_at port bit net = record { port = port; bit = bit; net = net }

-- connections of one port, bit by bit
abbrev pub bits_from : List ℕ → ℕ → List ℕ → List Conn
bits_from port bit [] = []
bits_from port bit (net ∷ nets) = conn_at port bit net ∷ bits_from port (bit + 1) nets

abbrev pub name_at : List (List ℕ) → ℕ → List ℕ
name_at nets net = slice_index_or nets net []

abbrev pub input_atom : List (List ℕ) → ℕ → Atom
input_atom nets net = record { name = name_at nets net; kind = InPad; ins = []; outs = conn_at (codes "out") 0 net ∷ []; table = []; params = [] }

abbrev pub output_atom : List (List ℕ) → ℕ → Atom
output_atom nets net = record { name = out_name (name_at nets net); kind = OutPad; ins = conn_at (codes "in") 0 net ∷ []; outs = []; table = []; params = [] }

abbrev pub pin_conn : PinAt → Conn
pin_conn pin = conn_at pin.port pin.bit pin.net

-- the connections of a box on one side, in the order of its line
abbrev pub conns_on : Bool → List PinAt → List Conn
conns_on side [] = []
conns_on side (pin ∷ pins) = if pin.is_output then (if side then pin_conn pin ∷ conns_on side pins else conns_on side pins) else (if side then conns_on side pins else pin_conn pin ∷ conns_on side pins)

abbrev pub elem_atom : Elem → Atom
elem_atom (elem.Lut name inputs output table) = record { name = name; kind = Lut; ins = bits_from (codes "in") 0 inputs; outs = conn_at (codes "out") 0 output ∷ []; table = table; params = [] }
elem_atom (elem.Latch name loaded made control) = record { name = name; kind = Latch; ins = conn_at (codes "in") 0 loaded ∷ conn_at (codes "clk") 0 control ∷ []; outs = conn_at (codes "out") 0 made ∷ []; table = []; params = [] }
elem_atom (elem.Box name model pins params) = record { name = name; kind = Cell model; ins = conns_on false pins; outs = conns_on true pins; table = []; params = params }

abbrev pub atoms_of : ModelParts → List Atom
atoms_of parts = map (input_atom parts.nets) parts.inputs ++ map (output_atom parts.nets) parts.outputs ++ map elem_atom parts.elems

-- the netlist of a model, before it is known to be one
abbrev pub net_of : ModelParts → NetlistParts
net_of parts = record { nets = parts.nets; atoms = atoms_of parts }
