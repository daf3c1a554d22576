-- What `trace` read and printed, and why it stopped, joined from its steps.
use Rattle.std.proofs.Common.{◌≡◌, ◌<◌, ◌≤◌, inl, inr, ℕ, List, length, get_or, refl, sym, ap, ◌∙◌, subst, Option, Some}
use Rattle.std.specs.Prelude.{slice_get}
use Rattle.std.proofs.lemmas.Option.{slice_get-get_or}
use Rattle.vtr_base.specs.Outside.{Files}
use Rattle.arch_types.specs.declared.arch.Arch.{Arch}
use Rattle.pb_expand.specs.Graph.{Graph}
use Rattle.run_base.specs.declared.stop.Stop.{Stop}
use Rattle.run_base.specs.declared.stop.Stop.TheVariants.{Refused, Outside, Memory}
use Rattle.run_base.specs.Worlds.{World, world, Fetched}
use Rattle.run_base.specs.Stops.{StopsAtFile, StopsAfter, NoneBad}
use Rattle.run_base.proofs.Later.{fetched_in, stops_later}
use Rattle.run_inputs.specs.Architectures.{Expands, IsExpanded, AreGraphs, IsGraphOf, NamesBlock, LacksBlock, TellsNoBlock, StopsAtArch}
use Rattle.cmd_trace.specs.Trace.{HasGraph, IsTextOf, IsTraced, IsBadProg, StopsTrace, IsRefusedProg}

-- what was read before a later call is read in the whole run
pub expands_in : (files : Option Files) (a b c : ℕ) (arch : List ℕ) (x : Arch) (graphs : List Graph) → Expands (world files a b) arch x graphs →
    Expands (world files a c) arch x graphs
expands_in files a b c arch x graphs is = record {
  reads = record {
    bytes = is.reads.bytes;
    fetched = fetched_in files files a c a b arch is.reads.bytes refl is.reads.fetched;
    spells = is.reads.spells;
  };
  are = is.are;
}

pub graph_at : (w : World) (arch block : List ℕ) (a : Arch) (graphs : List Graph) (number : ℕ) (g : Graph) → Expands w arch a graphs → NamesBlock a block number →
    number < length graphs → g ≡ get_or graphs number g → HasGraph w arch block g
graph_at w arch block a graphs number g expands names inside read = record {
  a = a;
  graphs = graphs;
  expands = expands;
  number = number;
  names = names;
  is_graph = expands.are.each number g (slice_get-get_or graphs number g inside ∙ ap Some (sym read));
}

pub traced : (w : World) (arch block prog : List ℕ) (g : Graph) (bytes read text : List ℕ) → HasGraph w arch block g → Fetched w prog bytes → read ≡ bytes →
    IsTextOf g read text → IsTraced w arch block prog text
traced w arch block prog g bytes read text has fetched same is = record {
  graph = g;
  has = has;
  bytes = bytes;
  fetched = fetched;
  is_text = subst (λ b. IsTextOf g b text) same is;
}

-- the fetch of `prog` stopped
pub prog_unfetched : (files later : Option Files) (a b c : ℕ) (arch block prog : List ℕ) (x : Arch) (graphs : List Graph) (s : Stop) → later ≡ files → a ≤ b →
    Expands (world files a b) arch x graphs → StopsAtFile (world later b c) (Unit {0}) prog NoneBad s → StopsTrace (world files a c) arch block prog s
prog_unfetched files later a b c arch block prog x graphs s same early expands is =
    inr (inl (stops_later files later a b c (IsExpanded (world files a c) arch) prog (IsBadProg (world files a c) arch block) s same early
    (x, graphs, expands_in files a b c arch x graphs expands) is))

-- no block type has the name
pub no_block : (w : World) (arch block prog : List ℕ) (x : Arch) (graphs : List Graph) (bytes : List ℕ) (s : Stop) → Expands w arch x graphs → Fetched w prog bytes →
    StopsAfter (LacksBlock x block) arch (TellsNoBlock block) s → StopsTrace w arch block prog s
no_block w arch block prog x graphs bytes (Refused name why) expands fetched is = inr (inr (
  is.0,
  record { a = x; graphs = graphs; expands = expands; bytes = bytes; fetched = fetched; lacks = is.1 },
  is.2,
))
no_block w arch block prog x graphs bytes (Outside name) expands fetched is = absurd is
no_block w arch block prog x graphs bytes Memory expands fetched is = inl (inl tt)

-- the file `prog` spells no programming
pub prog_stopped : (w : World) (arch block prog : List ℕ) (g : Graph) (bytes read : List ℕ) (s : Stop) → HasGraph w arch block g → Fetched w prog bytes → read ≡ bytes →
    IsRefusedProg g prog read s → StopsTrace w arch block prog s
prog_stopped w arch block prog g bytes read (Refused name why) has fetched same is = inr (inl (
  is.0,
  (has.a, has.graphs, has.expands),
  inr (inr (record {
    bytes = bytes;
    fetched = fetched;
    bad = record { graph = g; has = has; tells = (subst (λ b. IsRefusedProg g prog b (Refused name why)) same is).2 };
  })),
))
prog_stopped w arch block prog g bytes read (Outside name) has fetched same is = absurd is
prog_stopped w arch block prog g bytes read Memory has fetched same is = inl (inl tt)

-- a stop at the architecture, before any later call
pub arch_stopped : (w : World) (arch block prog : List ℕ) (s : Stop) → StopsAtArch w arch s → StopsTrace w arch block prog s
arch_stopped w arch block prog s is = inl is

-- the root of the graph at that number is the block type of that number
pub root_at : (a : Arch) (graphs : List Graph) (number : ℕ) (g : Graph) → AreGraphs a graphs → number < length graphs → g ≡ get_or graphs number g →
    slice_get a.blocks number ≡ Some g.root
root_at a graphs number g are inside read =
    let is : IsGraphOf a number g = are.each number g (slice_get-get_or graphs number g inside ∙ ap Some (sym read)) in is.root
