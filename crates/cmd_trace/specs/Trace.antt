-- What `trace` answers, and why it stops.
use Rattle.std.specs.Prelude.{◌≡◌, ◌⊎◌, ℕ, List}
use Rattle.arch_types.specs.declared.arch.Arch.{Arch}
use Rattle.pb_expand.specs.Graph.{Graph}
use Rattle.prog_map.specs.Choices.{Choices}
use Rattle.prog_text.specs.Telling.{prog_text, is_want_of_memory}
use Rattle.prog_text.specs.Text.{SpellsProg, Refuses}
use Rattle.run_base.specs.declared.status.Status.{Status}
use Rattle.run_base.specs.declared.status.Status.TheVariants as status
use Rattle.run_base.specs.declared.stop.Stop.{Stop}
use Rattle.run_base.specs.Worlds.{World, Fetched}
use Rattle.run_base.specs.Stops.{StopsAtFile, StopsAfter, TellsOf}
use Rattle.run_inputs.specs.Architectures.{Expands, IsExpanded, IsGraphOf, NamesBlock, LacksBlock, TellsNoBlock, StopsAtArch}
use Rattle.cmd_trace.specs.Lines.{AreAnswers, leaf_inputs}

-- the file `arch` spells an architecture, and the word `block` names a block type of it, which has
-- this graph
pub record HasGraph (w : World) (arch block : List ℕ) (g : Graph) : Type 0 where
  pub a : Arch
  pub graphs : List Graph
  pub expands : Expands w arch a graphs
  pub number : ℕ
  pub names : NamesBlock a block number
  pub is_graph : IsGraphOf a number g

-- the lines of a programming that the bytes spell
pub record IsTextOf (g : Graph) (bytes text : List ℕ) : Type 0 where
  pub choices : Choices
  pub spells : SpellsProg g bytes choices
  pub lines : AreAnswers g choices (leaf_inputs g) text

-- `trace` is done: the file `prog` spells a programming of the block type's graph, and the text is
-- its lines
pub record IsTraced (w : World) (arch block prog text : List ℕ) : Type 0 where
  pub graph : Graph
  pub has : HasGraph w arch block graph
  pub bytes : List ℕ
  pub fetched : Fetched w prog bytes
  pub is_text : IsTextOf graph bytes text

-- what `trace` answers
abbrev pub AnswersTrace : World → List ℕ → List ℕ → List ℕ → Status → List ℕ → Type 0
AnswersTrace w arch block prog s text = (s ≡ status.Done) × IsTraced w arch block prog text

-- what is told of bytes that spell no programming of the block type's graph
pub record IsBadProg (w : World) (arch block bytes why : List ℕ) : Type 0 where
  pub graph : Graph
  pub has : HasGraph w arch block graph
  pub tells : TellsOf is_want_of_memory prog_text (Refuses graph bytes) why

-- the word names no block type, where the architecture has graphs and the file `prog` was fetched
pub record HasNoBlock (w : World) (arch block prog : List ℕ) : Type 0 where
  pub a : Arch
  pub graphs : List Graph
  pub expands : Expands w arch a graphs
  pub bytes : List ℕ
  pub fetched : Fetched w prog bytes
  pub lacks : LacksBlock a block

-- why `trace` stops: at the architecture; at the file `prog`, behind an architecture whose block
-- types have graphs; or at the word `block`, which is looked up when `prog` was fetched
abbrev pub StopsTrace : World → List ℕ → List ℕ → List ℕ → Stop → Type 0
StopsTrace w arch block prog s =
    StopsAtArch w arch s
    ⊎ (StopsAtFile w (IsExpanded w arch) prog (IsBadProg w arch block) s
    ⊎ StopsAfter (HasNoBlock w arch block prog) arch (TellsNoBlock block) s)

-- a stop at bytes that spell no programming of the graph
abbrev pub IsRefusedProg : Graph → List ℕ → List ℕ → Stop → Type 0
IsRefusedProg g prog bytes s = StopsAfter (Unit {0}) prog (TellsOf is_want_of_memory prog_text (Refuses g bytes)) s
