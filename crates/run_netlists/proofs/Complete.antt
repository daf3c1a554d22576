-- At valid inputs a run stops for want of memory alone.
use Rattle.std.proofs.Common.{◌≡◌, ◌≤◌, ◌⊎◌, inl, inr, ℕ, Bool, true, false, List, refl, sym, ap, ◌∙◌, subst, Option}
use Rattle.vtr_base.specs.Outside.{Files}
use Rattle.arch_types.specs.declared.arch.Arch.{Arch}
use Rattle.arch_types.specs.declared.arch.CellModel.{CellModel}
use Rattle.net_types.specs.declared.parts.NetlistParts.{NetlistParts}
use Rattle.pb_expand.specs.Graph.{Graph}
use Rattle.blif_errors.specs.declared.error.BlifError.{BlifError}
use Rattle.blif_errors.specs.declared.error.BlifError.TheVariants.{OutOfMemory}
use Rattle.blif_errors.specs.Telling.{blif_text, is_want_of_memory}
use Rattle.blif_net.specs.Netlists.{SaysNetlist, IsRefused}
use Rattle.blif_net.specs.Laws.{NeverBoth}
use Rattle.run_base.specs.declared.stop.Stop.{Stop}
use Rattle.run_base.specs.declared.stop.Stop.TheVariants.{Refused, Outside, Memory}
use Rattle.run_base.specs.Worlds.{World, world, Fetched}
use Rattle.run_base.specs.Stops.{IsRefusedBy}
use Rattle.run_inputs.specs.Architectures.{Expands}
use Rattle.run_inputs.specs.Valid.{ReadsOneArch}
use Rattle.run_laws.specs.Fetches.{StopsInRun, StopsAtFetch, FetchesOneText, IsFetchedWhereThere}
use Rattle.run_netlists.specs.Valid.{IsValidMapped}

not_both : (v : Bool) → v ≡ true → v ≡ false → ⊥
not_both v t f = cc

-- bytes that say a netlist are refused for want of memory alone
pub refused_for_memory : NeverBoth → (models : List CellModel) (blif bytes : List ℕ) (n : NetlistParts) (e : BlifError) (s : Stop) → SaysNetlist models bytes n →
    (e ≡ OutOfMemory) ⊎ IsRefused models bytes e → IsRefusedBy blif (is_want_of_memory e) (blif_text e) s → s ≡ Memory
refused_for_memory never models blif bytes n e (Refused file why) says (inl short) is = absurd (not_both (is_want_of_memory e) (ap is_want_of_memory short) is.1)
refused_for_memory never models blif bytes n e (Refused file why) says (inr refused) is = absurd (never models bytes n e says refused)
refused_for_memory never models blif bytes n e (Outside file) says refused is = absurd is
refused_for_memory never models blif bytes n e Memory says refused is = refl

-- the fetch of `blif` stopped
pub fetched_but_memory : StopsInRun → IsFetchedWhereThere → (files later : Option Files) (a b c : ℕ) (arch blif : List ℕ) (s : Stop) → later ≡ files → a ≤ b →
    IsValidMapped (world files a c) arch blif → StopsAtFetch (world later b c) blif s → s ≡ Memory
fetched_but_memory stops calm files later a b c arch blif s same early valid is =
    calm (world files a c) blif valid.netlist.bytes s valid.calm valid.netlist.fetched (stops files later a b c blif s same early is)

-- the bytes that were read spell a netlist over the architecture that was read
pub spelled : ReadsOneArch → FetchesOneText → (w : World) (arch blif : List ℕ) (x : Arch) (graphs : List Graph) (bytes read : List ℕ) → Expands w arch x graphs → Fetched w blif bytes →
    read ≡ bytes → IsValidMapped w arch blif → (n : NetlistParts) × SaysNetlist x.models read n
spelled one once w arch blif x graphs bytes read expands fetched same valid = (
  valid.net,
  subst (λ (y : Arch). SaysNetlist y.models read valid.net) (one w arch valid.a x valid.calm valid.is_arch.reads expands.reads)
      (subst (λ b. SaysNetlist valid.a.models b valid.net) (once w blif valid.netlist.bytes bytes valid.calm valid.netlist.fetched fetched ∙ sym same) valid.netlist.says),
)
