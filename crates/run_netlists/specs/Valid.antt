-- Which architectures and netlists no run stops at but for want of memory.
use Rattle.std.specs.Prelude.{ℕ, List}
use Rattle.arch_types.specs.declared.arch.Arch.{Arch}
use Rattle.net_types.specs.declared.parts.NetlistParts.{NetlistParts}
use Rattle.run_base.specs.Worlds.{World}
use Rattle.run_inputs.specs.Valid.{IsCalm, IsValidArch}
use Rattle.run_netlists.specs.Netlists.{ReadsNetlist}

-- the files are told and the shelf doesn't fail; the file `arch` spells an architecture whose block
-- types can all be expanded; and the file `blif` spells a netlist over its models
pub record IsValidMapped (w : World) (arch blif : List ℕ) : Type 0 where
  pub calm : IsCalm w
  pub a : Arch
  pub is_arch : IsValidArch w arch a
  pub net : NetlistParts
  pub netlist : ReadsNetlist w blif a net
