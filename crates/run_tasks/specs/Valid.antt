-- Which tasks no run stops at but for want of memory.
use Rattle.std.specs.Prelude.{ℕ, List}
use Rattle.atom_lists.specs.Lists.{SpellsAtoms}
use Rattle.run_base.specs.Worlds.{World, Fetched}
use Rattle.run_inputs.specs.Architectures.{NamesBlock}
use Rattle.run_netlists.specs.declared.mapped.Mapped.{Mapped}
use Rattle.run_netlists.specs.Valid.{IsValidMapped}
use Rattle.run_tasks.specs.Words.{WordsSaid}
use Rattle.run_tasks.specs.Tasks.{ReadsMappedOf}

-- the architecture and the netlist are valid, and of what is read of them one word names a block type
-- and one file lists atoms
pub record IsValidInput (w : World) (words : WordsSaid) : Type 0 where
  pub mapped : IsValidMapped w words.arch words.blif
  pub names : (x : Mapped) → ReadsMappedOf w words x → (number : ℕ) × NamesBlock x.expanded.architecture words.block number
  pub bytes : List ℕ
  pub fetched : Fetched w words.atoms bytes
  pub spells : (x : Mapped) → ReadsMappedOf w words x → (numbers : List ℕ) × SpellsAtoms x.netlist.atoms bytes numbers
