-- At valid inputs a run stops for want of memory alone.
use Rattle.std.proofs.Common.{◌≡◌, ◌≤◌, ℕ, List, refl, sym, ◌∙◌, subst, Option}
use Rattle.vtr_base.specs.Outside.{Files}
use Rattle.atom_lists.specs.Lists.{SpellsAtoms}
use Rattle.run_base.specs.declared.stop.Stop.{Stop}
use Rattle.run_base.specs.declared.stop.Stop.TheVariants.{Refused, Outside, Memory}
use Rattle.run_base.specs.Worlds.{World, world, Fetched}
use Rattle.run_base.specs.Stops.{StopsAfter}
use Rattle.run_inputs.specs.Architectures.{LacksBlock, TellsNoBlock}
use Rattle.run_laws.specs.Fetches.{StopsInRun, StopsAtFetch, FetchesOneText, IsFetchedWhereThere}
use Rattle.run_netlists.specs.declared.mapped.Mapped.{Mapped}
use Rattle.run_tasks.specs.Words.{WordsSaid}
use Rattle.run_tasks.specs.Tasks.{ReadsMappedOf}
use Rattle.run_tasks.specs.Valid.{IsValidInput}

-- the fetch of the list stopped
pub fetched_but_memory : StopsInRun → IsFetchedWhereThere → (files later : Option Files) (a b c : ℕ) (words : WordsSaid) (s : Stop) → later ≡ files → a ≤ b →
    IsValidInput (world files a c) words → StopsAtFetch (world later b c) words.atoms s → s ≡ Memory
fetched_but_memory stops calm files later a b c words s same early valid is =
    calm (world files a c) words.atoms valid.bytes s valid.mapped.calm valid.fetched (stops files later a b c words.atoms s same early is)

-- the block type wasn't found
pub named_but_memory : (w : World) (words : WordsSaid) (x : Mapped) (s : Stop) → ReadsMappedOf w words x → IsValidInput w words →
    StopsAfter (LacksBlock x.expanded.architecture words.block) words.arch (TellsNoBlock words.block) s → s ≡ Memory
named_but_memory w words x (Refused name why) reads valid is =
    let named = valid.names x reads in absurd (is.1 named.0 named.1.there)
named_but_memory w words x (Outside name) reads valid is = absurd is
named_but_memory w words x Memory reads valid is = refl

-- the bytes that were read list atoms of the netlist that was read
pub spelled : FetchesOneText → (w : World) (words : WordsSaid) (x : Mapped) (bytes read : List ℕ) → ReadsMappedOf w words x → Fetched w words.atoms bytes → read ≡ bytes →
    IsValidInput w words → (numbers : List ℕ) × SpellsAtoms x.netlist.atoms read numbers
spelled once w words x bytes read reads fetched same valid =
    subst (λ b. (numbers : List ℕ) × SpellsAtoms x.netlist.atoms b numbers)
    (once w words.atoms valid.bytes bytes valid.mapped.calm valid.fetched fetched ∙ sym same) (valid.spells x reads)
