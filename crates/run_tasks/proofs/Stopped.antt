-- What a run read of a task, and why it stopped, joined from its steps.
use Rattle.std.proofs.Common.{◌≡◌, ◌<◌, ◌≤◌, inl, inr, ℕ, List, length, get_or, refl, sym, ap, ◌∙◌, subst, Option, Some}
use Rattle.std.proofs.lemmas.Option.{slice_get-get_or}
use Rattle.vtr_base.specs.Outside.{Files}
use Rattle.pb_expand.specs.Graph.{Graph}
use Rattle.task_types.specs.declared.task.Task.{Task}
use Rattle.run_base.specs.declared.stop.Stop.{Stop}
use Rattle.run_base.specs.declared.stop.Stop.TheVariants.{Refused, Outside, Memory}
use Rattle.run_base.specs.Worlds.{World, world, Fetched}
use Rattle.run_base.specs.Stops.{StopsAtFile, StopsAfter}
use Rattle.run_inputs.specs.Architectures.{NamesBlock, LacksBlock, TellsNoBlock}
use Rattle.run_laws.specs.Fetches.{IsFetchedInRun, StopsInRun, StopsAtFetch}
use Rattle.run_netlists.specs.declared.mapped.Mapped.{Mapped}
use Rattle.run_netlists.specs.Netlists.{IsMapped}
use Rattle.run_tasks.specs.Words.{WordsSaid}
use Rattle.run_tasks.specs.Tasks.{IsTaskFrom, ReadsMappedOf, ReadsTask, IsBadList, StopsAtTask, IsRefusedList}

-- what was read before a later call is read in the whole run
pub mapped_in : IsFetchedInRun → (files : Option Files) (a b c : ℕ) (words : WordsSaid) (x : Mapped) → ReadsMappedOf (world files a b) words x → ReadsMappedOf (world files a c) words x
mapped_in law files a b c words x is = record {
  expands = record {
    reads = record {
      bytes = is.expands.reads.bytes;
      fetched = law files files a c a b words.arch is.expands.reads.bytes refl is.expands.reads.fetched;
      spells = is.expands.reads.spells;
    };
    are = is.expands.are;
  };
  netlist = record {
    bytes = is.netlist.bytes;
    fetched = law files files a c a b words.blif is.netlist.bytes refl is.netlist.fetched;
    says = is.netlist.says;
  };
}

-- a fetch that stopped tells nothing of the bytes, so it stops whatever bytes are bad
behind : (w : World) (Before : Type 0) (name : List ℕ) (Bad : List ℕ → List ℕ → Type 0) (s : Stop) → Before → StopsAtFetch w name s → StopsAtFile w Before name Bad s
behind w Before name Bad (Refused file why) before (is, start, inl missing) = (is, before, inl missing)
behind w Before name Bad (Refused file why) before (is, start, inr (inl long)) = (is, before, inr (inl long))
behind w Before name Bad (Refused file why) before (is, start, inr (inr bad)) = absurd bad.bad
behind w Before name Bad (Outside file) before is = (is.0, before, is.2)
behind w Before name Bad Memory before is = tt

-- the fetch of the list stopped
pub list_unfetched : IsFetchedInRun → StopsInRun → (files later : Option Files) (a b c : ℕ) (words : WordsSaid) (x : Mapped) (s : Stop) → later ≡ files → a ≤ b →
    ReadsMappedOf (world files a b) words x → StopsAtFetch (world later b c) words.atoms s → StopsAtTask (world files a c) words s
list_unfetched law stops files later a b c words x s same early reads is =
    inr (inl (behind (world files a c) (IsMapped (world files a c) words.arch words.blif) words.atoms (IsBadList (world files a c) words) s
    (x, mapped_in law files a b c words x reads) (stops files later a b c words.atoms s same early is)))

-- no block type has the name
pub no_block : (w : World) (words : WordsSaid) (x : Mapped) (bytes : List ℕ) (s : Stop) → ReadsMappedOf w words x → Fetched w words.atoms bytes →
    StopsAfter (LacksBlock x.expanded.architecture words.block) words.arch (TellsNoBlock words.block) s → StopsAtTask w words s
no_block w words x bytes (Refused name why) reads fetched is = inr (inr (
  is.0,
  record { mapped = x; reads = reads; bytes = bytes; fetched = fetched; lacks = is.1 },
  is.2,
))
no_block w words x bytes (Outside name) reads fetched is = absurd is
no_block w words x bytes Memory reads fetched is = inl (inl (inl tt))

-- the file lists no atoms
pub list_stopped : (w : World) (words : WordsSaid) (x : Mapped) (number : ℕ) (bytes read : List ℕ) (s : Stop) → ReadsMappedOf w words x →
    NamesBlock x.expanded.architecture words.block number → Fetched w words.atoms bytes → read ≡ bytes → IsRefusedList x.netlist.atoms words.atoms read s →
    StopsAtTask w words s
list_stopped w words x number bytes read (Refused name why) reads names fetched same is = inr (inl (
  is.0,
  (x, reads),
  inr (inr (record {
    bytes = bytes;
    fetched = fetched;
    bad = record {
      mapped = x;
      reads = reads;
      number = number;
      names = names;
      tells = (subst (λ b. IsRefusedList x.netlist.atoms words.atoms b (Refused name why)) same is).2;
    };
  })),
))
list_stopped w words x number bytes read (Outside name) reads names fetched same is = absurd is
list_stopped w words x number bytes read Memory reads names fetched same is = inl (inl (inl tt))

pub reads_task : (w : World) (words : WordsSaid) (x : Mapped) (number : ℕ) (g : Graph) (t : Task) (bytes read : List ℕ) → ReadsMappedOf w words x →
    NamesBlock x.expanded.architecture words.block number → number < length x.expanded.graphs.items → g ≡ get_or x.expanded.graphs.items number g →
    Fetched w words.atoms bytes → read ≡ bytes → IsTaskFrom g x.netlist.atoms read t → ReadsTask w words (record { mapped = x; block = number; task = t })
reads_task w words x number g t bytes read reads names inside is fetched same task = record {
  mapped = reads;
  names = names;
  graph = g;
  is_graph = slice_get-get_or x.expanded.graphs.items number g inside ∙ ap Some (sym is);
  bytes = bytes;
  fetched = fetched;
  is_task = subst (λ b. IsTaskFrom g x.netlist.atoms b t) same task;
}
