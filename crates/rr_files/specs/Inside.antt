-- The tables that a routing graph is held in.
use Rattle.rr_files.specs.declared.rr.Rr.TheInside.{Inside}
use Rattle.rr_files.specs.Parts.{GraphParts}

abbrev pub parts_of : Inside → GraphParts
parts_of r = record { layout = r.layout; nodes = r.nodes; edges = r.edges.kept; wires = r.wires }
