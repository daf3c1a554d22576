-- What a part of a run tells of the whole run. A part meets the files that the run met, and the
-- shelf's count of faults never falls.
use Rattle.std.specs.Prelude.{◌≡◌, ◌≤◌, ℕ, List, Option}
use Rattle.vtr_base.specs.Outside.{Files}
use Rattle.run_base.specs.declared.stop.Stop.{Stop}
use Rattle.run_base.specs.declared.stop.Stop.TheVariants.{Memory}
use Rattle.run_base.specs.Worlds.{World, world, Fetched}
use Rattle.run_base.specs.Stops.{StopsAtFile, NoneBad}
use Rattle.run_inputs.specs.Valid.{IsCalm}

-- bytes that a part of the run fetched are those of the files that the run met
abbrev pub IsFetchedInRun : Type 0
IsFetchedInRun =
    (files later : Option Files) (a b c d : ℕ) (name bytes : List ℕ) → later ≡ files → Fetched (world later c d) name bytes → Fetched (world files a b) name bytes

-- the run stopped at this fetch, which tells nothing of the bytes
abbrev pub StopsAtFetch : World → List ℕ → Stop → Type 0
StopsAtFetch w name s = StopsAtFile w (Unit {0}) name NoneBad s

-- the last part of a run stopped at a fetch, and so did the run
abbrev pub StopsInRun : Type 0
StopsInRun =
    (files later : Option Files) (a b c : ℕ) (name : List ℕ) (s : Stop) → later ≡ files → a ≤ b → StopsAtFetch (world later b c) name s → StopsAtFetch (world files a c) name s

-- where files are told, a name has the bytes of one file
abbrev pub FetchesOneText : Type 0
FetchesOneText = (w : World) (name x y : List ℕ) → IsCalm w → Fetched w name x → Fetched w name y → x ≡ y

-- a file that is there and has room stops a calm run for want of memory alone
abbrev pub IsFetchedWhereThere : Type 0
IsFetchedWhereThere = (w : World) (name bytes : List ℕ) (s : Stop) → IsCalm w → Fetched w name bytes → StopsAtFetch w name s → s ≡ Memory
