-- What a run read of an architecture and a netlist, and why it stopped, joined from its steps.
use Rattle.std.proofs.Common.{◌≡◌, ◌≤◌, ◌⊎◌, inl, inr, ℕ, Bool, true, false, List, refl, ap, subst, Option}
use Rattle.vtr_base.specs.Outside.{Files}
use Rattle.arch_types.specs.declared.arch.Arch.{Arch}
use Rattle.net_types.specs.declared.parts.NetlistParts.{NetlistParts}
use Rattle.pb_expand.specs.Graph.{Graph}
use Rattle.blif_net.specs.Netlists.{SaysNetlist, IsRefused}
use Rattle.run_base.specs.declared.stop.Stop.{Stop}
use Rattle.run_base.specs.declared.stop.Stop.TheVariants.{Refused, Outside, Memory}
use Rattle.run_base.specs.Worlds.{World, world, Fetched}
use Rattle.run_base.specs.Stops.{StopsAtFile, IsRefusedBy}
use Rattle.blif_errors.specs.declared.error.BlifError.{BlifError}
use Rattle.blif_errors.specs.declared.error.BlifError.TheVariants.{OutOfMemory}
use Rattle.blif_errors.specs.Telling.{blif_text, is_want_of_memory}
use Rattle.run_inputs.specs.Architectures.{Expands, IsExpanded}
use Rattle.run_laws.specs.Fetches.{IsFetchedInRun, StopsInRun, StopsAtFetch}
use Rattle.run_netlists.specs.Netlists.{ReadsNetlist, IsBadBlif, StopsAtMapped, IsRefusedNetlist}

not_both : (v : Bool) → v ≡ true → v ≡ false → ⊥
not_both v t f = cc

-- what was read before a later call is read in the whole run
pub expands_in : IsFetchedInRun → (files : Option Files) (a b c : ℕ) (arch : List ℕ) (x : Arch) (graphs : List Graph) → Expands (world files a b) arch x graphs →
    Expands (world files a c) arch x graphs
expands_in law files a b c arch x graphs is = record {
  reads = record {
    bytes = is.reads.bytes;
    fetched = law files files a c a b arch is.reads.bytes refl is.reads.fetched;
    spells = is.reads.spells;
  };
  are = is.are;
}

-- a fetch that stopped tells nothing of the bytes, so it stops whatever bytes are bad
behind : (w : World) (Before : Type 0) (name : List ℕ) (Bad : List ℕ → List ℕ → Type 0) (s : Stop) → Before → StopsAtFetch w name s → StopsAtFile w Before name Bad s
behind w Before name Bad (Refused file why) before (is, start, inl missing) = (is, before, inl missing)
behind w Before name Bad (Refused file why) before (is, start, inr (inl long)) = (is, before, inr (inl long))
behind w Before name Bad (Refused file why) before (is, start, inr (inr bad)) = absurd bad.bad
behind w Before name Bad (Outside file) before is = (is.0, before, is.2)
behind w Before name Bad Memory before is = tt

-- the fetch of `blif` stopped
pub blif_unfetched : IsFetchedInRun → StopsInRun → (files later : Option Files) (a b c : ℕ) (arch blif : List ℕ) (x : Arch) (graphs : List Graph) (s : Stop) → later ≡ files → a ≤ b →
    Expands (world files a b) arch x graphs → StopsAtFetch (world later b c) blif s → StopsAtMapped (world files a c) arch blif s
blif_unfetched law stops files later a b c arch blif x graphs s same early expands is =
    inr (behind (world files a c) (IsExpanded (world files a c) arch) blif (IsBadBlif (world files a c) arch) s
    (x, graphs, expands_in law files a b c arch x graphs expands) (stops files later a b c blif s same early is))

-- the file `blif` spells no netlist
pub blif_stopped : (w : World) (arch blif : List ℕ) (x : Arch) (graphs : List Graph) (bytes read : List ℕ) (s : Stop) → Expands w arch x graphs → Fetched w blif bytes → read ≡ bytes →
    IsRefusedNetlist x blif read s → StopsAtMapped w arch blif s
blif_stopped w arch blif x graphs bytes read (Refused name why) expands fetched same is = inr (
  is.0,
  (x, graphs, expands),
  inr (inr (record {
    bytes = bytes;
    fetched = fetched;
    bad = record { a = x; graphs = graphs; expands = expands; bad = (subst (λ b. IsRefusedNetlist x blif b (Refused name why)) same is).2 };
  })),
)
blif_stopped w arch blif x graphs bytes read (Outside name) expands fetched same is = absurd is
blif_stopped w arch blif x graphs bytes read Memory expands fetched same is = inl (inl tt)

pub reads_netlist : (w : World) (blif : List ℕ) (x : Arch) (n : NetlistParts) (bytes read : List ℕ) → Fetched w blif bytes → read ≡ bytes → SaysNetlist x.models read n →
    ReadsNetlist w blif x n
reads_netlist w blif x n bytes read fetched same spells = record { bytes = bytes; fetched = fetched; says = subst (λ b. SaysNetlist x.models b n) same spells }

-- what is refused for a cause, but for want of memory, is a bad netlist
pub refused_netlist : (a : Arch) (file bytes : List ℕ) (e : BlifError) (s : Stop) → (e ≡ OutOfMemory) ⊎ IsRefused a.models bytes e →
    IsRefusedBy file (is_want_of_memory e) (blif_text e) s → IsRefusedNetlist a file bytes s
refused_netlist a file bytes e (Refused name why) (inl short) is = absurd (not_both (is_want_of_memory e) (ap is_want_of_memory short) is.1)
refused_netlist a file bytes e (Refused name why) (inr refused) is = (is.0, tt, record { error = e; cause = refused; counts = is.1; is = is.2 })
refused_netlist a file bytes e (Outside name) refused is = absurd is
refused_netlist a file bytes e Memory refused is = tt
