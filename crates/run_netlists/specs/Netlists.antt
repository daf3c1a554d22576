-- What a netlist's file gives over an architecture, and why a run stops at it.
use Rattle.std.specs.Prelude.{◌⊎◌, ℕ, List}
use Rattle.arch_types.specs.declared.arch.Arch.{Arch}
use Rattle.net_types.specs.declared.parts.NetlistParts.{NetlistParts}
use Rattle.blif_errors.specs.Telling.{blif_text, is_want_of_memory}
use Rattle.blif_net.specs.Netlists.{SaysNetlist, IsRefused}
use Rattle.pb_expand.specs.Graph.{Graph}
use Rattle.run_base.specs.declared.stop.Stop.{Stop}
use Rattle.run_base.specs.Worlds.{World, Fetched}
use Rattle.run_base.specs.Stops.{StopsAtFile, StopsAfter, TellsOf}
use Rattle.run_inputs.specs.Architectures.{Expands, IsExpanded, StopsAtArch}
use Rattle.run_netlists.specs.declared.mapped.Mapped.{Mapped}

-- the file spells the netlist, whose boxes are of the architecture's models
pub record ReadsNetlist (w : World) (file : List ℕ) (a : Arch) (net : NetlistParts) : Type 0 where
  pub bytes : List ℕ
  pub fetched : Fetched w file bytes
  pub says : SaysNetlist a.models bytes net

-- the file `arch` spells the architecture, whose block types have these graphs, and the file `blif`
-- the netlist
pub record ReadsMapped (w : World) (arch blif : List ℕ) (x : Mapped) : Type 0 where
  pub expands : Expands w arch x.expanded.architecture x.expanded.graphs.items
  pub netlist : ReadsNetlist w blif x.expanded.architecture x.netlist

-- the files spell an architecture all of whose block types have graphs, and a netlist
abbrev pub IsMapped : World → List ℕ → List ℕ → Type 0
IsMapped w arch blif = (x : Mapped) × ReadsMapped w arch blif x

-- what is told of bytes that spell no netlist over the architecture: the first rule that they break
abbrev pub IsBadNetlist : Arch → List ℕ → List ℕ → Type 0
IsBadNetlist a bytes why = TellsOf is_want_of_memory blif_text (IsRefused a.models bytes) why

-- the same over the architecture of the file `arch`, whose block types have graphs
pub record IsBadBlif (w : World) (arch bytes why : List ℕ) : Type 0 where
  pub a : Arch
  pub graphs : List Graph
  pub expands : Expands w arch a graphs
  pub bad : IsBadNetlist a bytes why

-- a run stops at the architecture, or at the netlist behind it
abbrev pub StopsAtMapped : World → List ℕ → List ℕ → Stop → Type 0
StopsAtMapped w arch blif s =
    StopsAtArch w arch s ⊎ StopsAtFile w (IsExpanded w arch) blif (IsBadBlif w arch) s

-- a stop at bytes that spell no netlist over the architecture
abbrev pub IsRefusedNetlist : Arch → List ℕ → List ℕ → Stop → Type 0
IsRefusedNetlist a file bytes s = StopsAfter (Unit {0}) file (IsBadNetlist a bytes) s
