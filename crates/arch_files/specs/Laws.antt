-- What the answers of the reader rest on: a file says one architecture, or breaks a rule.
use Rattle.std.specs.Prelude.{◌≡◌, ℕ, List}
use Rattle.arch_types.specs.declared.arch.Arch.{Arch}
use Rattle.arch_files.specs.declared.error.ArchError.{ArchError}
use Rattle.arch_files.specs.declared.error.ArchError.TheVariants.{OutOfMemory}
use Rattle.arch_files.specs.Files.{SpellsArch, IsRefused}

abbrev pub SpellsOneArch : Type 0
SpellsOneArch = (bytes : List ℕ) (a b : Arch) → SpellsArch bytes a → SpellsArch bytes b → a ≡ b

-- bytes that spell an architecture are refused for want of memory alone
abbrev pub IsReadWhereSpelled : Type 0
IsReadWhereSpelled = (bytes : List ℕ) (a : Arch) (e : ArchError) → SpellsArch bytes a → IsRefused bytes e → e ≡ OutOfMemory
