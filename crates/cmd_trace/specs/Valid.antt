-- At which inputs `trace` is done, or runs out of memory.
use Rattle.std.specs.Prelude.{ℕ, List}
use Rattle.arch_types.specs.declared.arch.Arch.{Arch}
use Rattle.pb_expand.specs.Graph.{Graph}
use Rattle.prog_map.specs.Choices.{Choices}
use Rattle.prog_text.specs.Text.{SpellsProg}
use Rattle.run_base.specs.Worlds.{World, Fetched}
use Rattle.run_inputs.specs.Architectures.{NamesBlock, IsGraphOf}
use Rattle.run_inputs.specs.Valid.{IsCalm, IsValidArch}

-- the files are told and the shelf doesn't fail; the file `arch` spells an architecture whose block
-- types can all be expanded; the word `block` names one of them; and the file `prog` spells a
-- programming of its graph
pub record IsValid (w : World) (arch block prog : List ℕ) : Type 0 where
  pub calm : IsCalm w
  pub a : Arch
  pub is_arch : IsValidArch w arch a
  pub number : ℕ
  pub names : NamesBlock a block number
  pub bytes : List ℕ
  pub fetched : Fetched w prog bytes
  pub spells : (g : Graph) → IsGraphOf a number g → (c : Choices) × SpellsProg g bytes c
