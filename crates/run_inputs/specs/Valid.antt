-- Which architectures no run stops at but for want of memory.
use Rattle.std.specs.Prelude.{◌≡◌, ℕ, List, Some, IsSome, slice_get}
use Rattle.arch_types.specs.declared.arch.Arch.{Arch}
use Rattle.arch_types.specs.declared.block.PbType.{PbType}
use Rattle.run_base.specs.declared.stop.Stop.{Stop}
use Rattle.run_base.specs.declared.stop.Stop.TheVariants.{Memory}
use Rattle.run_base.specs.Worlds.{World, Failed}
use Rattle.run_inputs.specs.Architectures.{ReadsArch, IsExpandable, StopsAtArch}

-- the shelf tells its files, and its count of faults didn't rise
pub record IsCalm (w : World) : Type 0 where
  pub told : IsSome w.files
  pub calm : Failed w → ⊥

-- the file spells the architecture, and each of its block types can be expanded
pub record IsValidArch (w : World) (file : List ℕ) (a : Arch) : Type 0 where
  pub reads : ReadsArch w file a
  pub expandable : (number : ℕ) (root : PbType) → slice_get a.blocks number ≡ Some root → IsExpandable root

-- where files are told, a file spells one architecture at most
abbrev pub ReadsOneArch : Type 0
ReadsOneArch =
    (w : World) (file : List ℕ) (a b : Arch) → IsCalm w → ReadsArch w file a → ReadsArch w file b → a ≡ b

-- a valid architecture stops a calm run for want of memory alone
abbrev pub IsReadWhereValid : Type 0
IsReadWhereValid =
    (w : World) (file : List ℕ) (a : Arch) (s : Stop) → IsCalm w → IsValidArch w file a → StopsAtArch w file s → s ≡ Memory
