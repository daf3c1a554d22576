-- Why a run stops before its answer.
use Rattle.std.specs.Prelude.{◌≡◌, ◌⊎◌, ℕ, Bool, false, List, None, codes}
use Rattle.vtr_base.specs.Outside.{file, WhereKnown, IsLongerOnShelf}
use Rattle.vtr_base.specs.declared.outside.ShelfError.{ShelfError}
use Rattle.vtr_base.specs.declared.outside.ShelfError.TheVariants as shelf
use Rattle.run_base.specs.declared.stop.Stop.{Stop}
use Rattle.run_base.specs.declared.stop.Stop.TheVariants.{Refused, Outside, Memory}
use Rattle.run_base.specs.Worlds.{World, Failed, Fetched, room}

-- the shelf holds no file of that name
pub record IsMissing (w : World) (name why : List ℕ) : Type 0 where
  pub told : why ≡ codes "7 Missing"
  pub absent : WhereKnown w.files (λ m. file m name ≡ None)

-- the file has more bytes than there is room for
pub record IsTooLong (w : World) (name why : List ℕ) : Type 0 where
  pub told : why ≡ codes "4 TooLong"
  pub longer : WhereKnown w.files (λ m. IsLongerOnShelf m name room)

-- the file's bytes are refused; `Bad` says which bytes are, and what is told of them
pub record HasBadBytes (w : World) (name : List ℕ) (Bad : List ℕ → List ℕ → Type 0) (why : List ℕ) : Type 0 where
  pub bytes : List ℕ
  pub fetched : Fetched w name bytes
  pub bad : Bad bytes why

-- why a file is refused
abbrev pub IsBadFile : World → List ℕ → (List ℕ → List ℕ → Type 0) → List ℕ → Type 0
IsBadFile w name Bad why = IsMissing w name why ⊎ (IsTooLong w name why ⊎ HasBadBytes w name Bad why)

-- the run stops at this input: `Before` says that all earlier inputs were read
abbrev pub StopsAtFile : World → Type 0 → List ℕ → (List ℕ → List ℕ → Type 0) → Stop → Type 0
StopsAtFile w Before name Bad (Refused file why) = (file ≡ name) × Before × IsBadFile w name Bad why
StopsAtFile w Before name Bad (Outside file) = (file ≡ name) × Before × Failed w
StopsAtFile w Before name Bad Memory = Unit {0}

-- the run stops for a cause that is no file's bytes, and `name` is the file that is told
abbrev pub StopsAfter : Type 0 → List ℕ → (List ℕ → Type 0) → Stop → Type 0
StopsAfter Before name Why (Refused file why) = (file ≡ name) × Before × Why why
StopsAfter Before name Why (Outside file) = ⊥
StopsAfter Before name Why Memory = Unit {0}

-- the run stops at this output: `Before` says what was to be written
abbrev pub StopsAtOutput : World → Type 0 → List ℕ → Stop → Type 0
StopsAtOutput w Before name (Refused file why) = ⊥
StopsAtOutput w Before name (Outside file) = (file ≡ name) × Before × Failed w
StopsAtOutput w Before name Memory = Unit {0}

-- the stop at a file that an error refuses; one that stands for want of memory tells of no file
abbrev pub IsRefusedBy : List ℕ → Bool → List ℕ → Stop → Type 0
IsRefusedBy name short told (Refused file why) = (file ≡ name) × (short ≡ false) × (why ≡ told)
IsRefusedBy name short told (Outside file) = ⊥
IsRefusedBy name short told Memory = Unit {0}

-- the stop at a file where the shelf failed
abbrev pub IsOutsideAt : List ℕ → Stop → Type 0
IsOutsideAt name (Refused file why) = ⊥
IsOutsideAt name (Outside file) = file ≡ name
IsOutsideAt name Memory = Unit {0}

-- an error of this cause is told, and it isn't want of memory
pub record TellsOf {E : Type 0} (is_short : E → Bool) (told : E → List ℕ) (Cause : E → Type 0) (why : List ℕ) : Type 0 where
  pub error : E
  pub cause : Cause error
  pub counts : is_short error ≡ false
  pub is : why ≡ told error

-- no bytes are refused: what a fetch alone can stop at
abbrev pub NoneBad : List ℕ → List ℕ → Type 0
NoneBad bytes why = ⊥

-- what a shelf's answer stands for, at a file of that name
abbrev pub IsStopFor : List ℕ → ShelfError → Stop → Type 0
IsStopFor name shelf.TooLong stop = IsRefusedBy name false (codes "4 TooLong") stop
IsStopFor name shelf.Missing stop = IsRefusedBy name false (codes "7 Missing") stop
IsStopFor name shelf.Failed stop = IsOutsideAt name stop
IsStopFor name shelf.OutOfMemory stop = stop ≡ Memory
