-- What `refute` read and told, and why it stopped, joined from its steps.
use Rattle.std.proofs.Common.{◌≡◌, ◌≤◌, inl, inr, ℕ, Bool, true, false, List, length, refl, sym, ap, ◌∙◌, subst, Option, Some}
use Rattle.std.specs.Prelude.{slice_get}
use Rattle.vtr_base.specs.Outside.{Files}
use Rattle.net_types.specs.declared.atom.Atom.{Atom}
use Rattle.arch_types.specs.declared.block.PbType.{PbType}
use Rattle.pb_expand.specs.Graph.{Graph}
use Rattle.prog_text.specs.Plain.{HasPlainNames}
use Rattle.task_types.specs.declared.task.Task.{Task}
use Rattle.task_types.specs.declared.tree.TreeNode.{TreeNode}
use Rattle.task_types.specs.Realises.{NothingRealises}
use Rattle.task_rules.specs.Valid.{IsValid}
use Rattle.tree_lines.specs.Nodes.{task_names}
use Rattle.tree_text.specs.declared.error.TreeError.{TreeError}
use Rattle.tree_text.specs.declared.error.TreeError.TheVariants.{OutOfMemory}
use Rattle.tree_text.specs.Laws.{IsReadWhereSpelled}
use Rattle.tree_text.specs.Telling.{tree_error_text, is_want_of_memory}
use Rattle.tree_text.specs.Text.{SpellsTree, Refuses}
use Rattle.tree_verdict.specs.declared.verdict.Verdict.{Verdict}
use Rattle.run_base.specs.declared.answer.Answer.{Answer}
use Rattle.run_base.specs.declared.stop.Stop.{Stop}
use Rattle.run_base.specs.declared.stop.Stop.TheVariants.{Refused, Outside, Memory}
use Rattle.run_base.specs.Worlds.{World, world, Fetched, room}
use Rattle.run_base.specs.Stops.{StopsAtFile, StopsAfter, IsRefusedBy}
use Rattle.run_laws.specs.Fetches.{IsFetchedInRun, StopsInRun, StopsAtFetch}
use Rattle.run_tasks.specs.Words.{WordsSaid}
use Rattle.run_tasks.specs.declared.input.TaskInput.{TaskInput}
use Rattle.run_tasks.specs.Tasks.{ReadsTask, HasTask}
use Rattle.cmd_refute.specs.Lines.{IsAnswerOf}
use Rattle.cmd_refute.specs.Refute.{Judges, AnswersRefute, IsBadTree, StopsRefute, IsRefusedTree}

not_both : (v : Bool) → v ≡ true → v ≡ false → ⊥
not_both v t f = cc

some_alike : {X : Type 0} {x y : X} → Some x ≡ Some y → x ≡ y
some_alike e = cc

-- what was read before a later call is read in the whole run
pub task_in : IsFetchedInRun → (files : Option Files) (a b c : ℕ) (words : WordsSaid) (x : TaskInput) → ReadsTask (world files a b) words x → ReadsTask (world files a c) words x
task_in law files a b c words x is = record {
  mapped = record {
    expands = record {
      reads = record {
        bytes = is.mapped.expands.reads.bytes;
        fetched = law files files a c a b words.arch is.mapped.expands.reads.bytes refl is.mapped.expands.reads.fetched;
        spells = is.mapped.expands.reads.spells;
      };
      are = is.mapped.expands.are;
    };
    netlist = record {
      bytes = is.mapped.netlist.bytes;
      fetched = law files files a c a b words.blif is.mapped.netlist.bytes refl is.mapped.netlist.fetched;
      says = is.mapped.netlist.says;
    };
  };
  names = is.names;
  graph = is.graph;
  is_graph = is.is_graph;
  bytes = is.bytes;
  fetched = law files files a c a b words.atoms is.bytes refl is.fetched;
  is_task = is.is_task;
}

-- the graph at the number of the block type is that of the task
pub one_graph : (w : World) (words : WordsSaid) (x : TaskInput) (g : Graph) (reads : ReadsTask w words x) →
    slice_get x.mapped.expanded.graphs.items x.block ≡ Some g → reads.graph ≡ g
one_graph w words x g reads is = some_alike (sym reads.is_graph ∙ is)

pub valid_here : (w : World) (words : WordsSaid) (x : TaskInput) (g : Graph) → ReadsTask w words x → slice_get x.mapped.expanded.graphs.items x.block ≡ Some g →
    IsValid g x.mapped.netlist.atoms x.task
valid_here w words x g reads is = subst (λ h. IsValid h x.mapped.netlist.atoms x.task) (one_graph w words x g reads is) reads.is_task.is.valid

pub plain_here : (w : World) (words : WordsSaid) (x : TaskInput) (g : Graph) → ReadsTask w words x → slice_get x.mapped.expanded.graphs.items x.block ≡ Some g →
    ((n : ℕ) (root : PbType) → slice_get x.mapped.expanded.architecture.blocks n ≡ Some root → HasPlainNames root) → HasPlainNames g.root
plain_here w words x g reads is plain = plain x.block g.root (reads.mapped.expands.are.each x.block g is).root

pub fits_here : (w : World) (name bytes read : List ℕ) → Fetched w name bytes → read ≡ bytes → length read ≤ room
fits_here w name bytes read fetched same = subst (λ b. length b ≤ room) (sym same) fetched.fits

-- a fetch that stopped tells nothing of the bytes, so it stops whatever bytes are bad
behind : (w : World) (Before : Type 0) (name : List ℕ) (Bad : List ℕ → List ℕ → Type 0) (s : Stop) → Before → StopsAtFetch w name s → StopsAtFile w Before name Bad s
behind w Before name Bad (Refused file why) before (is, start, inl missing) = (is, before, inl missing)
behind w Before name Bad (Refused file why) before (is, start, inr (inl long)) = (is, before, inr (inl long))
behind w Before name Bad (Refused file why) before (is, start, inr (inr bad)) = absurd bad.bad
behind w Before name Bad (Outside file) before is = (is.0, before, is.2)
behind w Before name Bad Memory before is = tt

pub memory_stops : (w : World) (words : WordsSaid) (tree : List ℕ) → StopsRefute w words tree Memory
memory_stops w words tree = inl (inl (inl (inl tt)))

-- the fetch of the tree stopped
pub tree_unfetched : IsFetchedInRun → StopsInRun → (files later : Option Files) (a b c : ℕ) (words : WordsSaid) (tree : List ℕ) (x : TaskInput) (s : Stop) → later ≡ files → a ≤ b →
    ReadsTask (world files a b) words x → StopsAtFetch (world later b c) tree s → StopsRefute (world files a c) words tree s
tree_unfetched law stops files later a b c words tree x s same early reads is =
    inr (behind (world files a c) (HasTask (world files a c) words) tree (IsBadTree (world files a c) words) s
    (x, task_in law files a b c words x reads) (stops files later a b c tree s same early is))

-- the file spells no tree
pub tree_stopped : (w : World) (words : WordsSaid) (tree : List ℕ) (x : TaskInput) (g : Graph) (bytes read : List ℕ) (s : Stop) → ReadsTask w words x →
    slice_get x.mapped.expanded.graphs.items x.block ≡ Some g → Fetched w tree bytes → read ≡ bytes → IsRefusedTree g x.mapped.netlist.atoms x.task tree read s →
    StopsRefute w words tree s
tree_stopped w words tree x g bytes read (Refused name why) reads at fetched same is = inr (
  is.0,
  (x, reads),
  inr (inr (record {
    bytes = bytes;
    fetched = fetched;
    bad = record {
      input = x;
      reads = reads;
      tells = (subst (λ h. IsRefusedTree h x.mapped.netlist.atoms x.task tree bytes (Refused name why)) (sym (one_graph w words x g reads at))
          (subst (λ b. IsRefusedTree g x.mapped.netlist.atoms x.task tree b (Refused name why)) same is)).2;
    };
  })),
)
tree_stopped w words tree x g bytes read (Outside name) reads at fetched same is = absurd is
tree_stopped w words tree x g bytes read Memory reads at fetched same is = memory_stops w words tree

pub answers : (w : World) (words : WordsSaid) (tree : List ℕ) (x : TaskInput) (g : Graph) (bytes read : List ℕ) (v : Verdict) (a : Answer) → ReadsTask w words x →
    slice_get x.mapped.expanded.graphs.items x.block ≡ Some g → Fetched w tree bytes → read ≡ bytes → Judges g x.mapped.netlist.atoms x.task read v → IsAnswerOf v a →
    AnswersRefute w words tree a.status a.text.items
answers w words tree x g bytes read v a reads at fetched same judges is = record {
  verdict = v;
  is = is.status;
  line = is.text;
  judged = record {
    input = x;
    reads = reads;
    bytes = bytes;
    fetched = fetched;
    judges = subst (λ h. Judges h x.mapped.netlist.atoms x.task bytes v) (sym (one_graph w words x g reads at))
        (subst (λ b. Judges g x.mapped.netlist.atoms x.task b v) same judges);
  };
}

-- bytes that spell a tree are refused for want of memory alone
pub refused_for_memory : (g : Graph) (t : Task) (names : List (List ℕ)) (file bytes : List ℕ) (nodes : List TreeNode) (e : TreeError) (s : Stop) → IsReadWhereSpelled g t names →
    SpellsTree g t names bytes nodes → Refuses g t names bytes e → IsRefusedBy file (is_want_of_memory e) (tree_error_text e) s → s ≡ Memory
refused_for_memory g t names file bytes nodes e (Refused name why) read spells refuses is =
    absurd (not_both (is_want_of_memory e) (ap is_want_of_memory (read bytes nodes e spells refuses)) is.1)
refused_for_memory g t names file bytes nodes e (Outside name) read spells refuses is = absurd is
refused_for_memory g t names file bytes nodes e Memory read spells refuses is = refl
