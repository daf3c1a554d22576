-- The tables that a graph of wires is held in.
use Rattle.std.specs.Prelude.{length}
use Rattle.rr_wires.specs.declared.types.End.TheVariants.{Src, Dst}
use Rattle.rr_wires.specs.declared.wires.Wires.TheInside.{Inside}
use Rattle.rr_wires.specs.Numbering.{WireGraph}
use Rattle.rr_wires.specs.Tables.{HasLists}
use Rattle.rr_wires.specs.Sound.{IsSound}

abbrev pub graph_of : Inside → WireGraph
graph_of t = record { numbering = t.numbers; edges = t.edges.items }

pub record IsHeld (t : Inside) : Type 0 where
  pub sound : IsSound (graph_of t)
  pub into : HasLists t.edges.items Dst (length t.numbers.least) t.into
  pub out_of : HasLists t.edges.items Src (length t.numbers.least) t.out_of
