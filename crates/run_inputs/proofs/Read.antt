-- Why a run stops at its architecture, from why one of its steps did.
use Rattle.std.proofs.Common.{◌≡◌, ℕ, List, inr, subst}
use Rattle.arch_types.specs.declared.arch.Arch.{Arch}
use Rattle.arch_files.specs.Files.{SpellsArch}
use Rattle.run_base.specs.declared.stop.Stop.{Stop}
use Rattle.run_base.specs.declared.stop.Stop.TheVariants.{Refused, Outside, Memory}
use Rattle.run_base.specs.Worlds.{World, Fetched}
use Rattle.run_base.specs.Stops.{StopsAfter}
use Rattle.run_inputs.specs.Architectures.{ReadsArch, TellsFirstUnexpanded, StopsAtArch}

pub reads_arch : (w : World) (file : List ℕ) (a : Arch) (bytes read : List ℕ) → Fetched w file bytes → read ≡ bytes → SpellsArch read a → ReadsArch w file a
reads_arch w file a bytes read fetched same spells = record { bytes = bytes; fetched = fetched; spells = subst (λ b. SpellsArch b a) same spells }

pub blocks_stopped : (w : World) (file : List ℕ) (a : Arch) (s : Stop) → ReadsArch w file a → StopsAfter (Unit {0}) file (TellsFirstUnexpanded a) s → StopsAtArch w file s
blocks_stopped w file a (Refused name why) reads is = inr (is.0, tt, record { a = a; reads = reads; first = is.2 })
blocks_stopped w file a (Outside name) reads is = absurd is
blocks_stopped w file a Memory reads is = inr tt
