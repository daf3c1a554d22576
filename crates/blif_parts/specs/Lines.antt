-- What all lines of a file say together, and the first of them that is refused.
use Rattle.std.specs.Prelude.{◌≡◌, ◌⊎◌, List, [], ◌∷◌, codes}
use Rattle.vtr_base.specs.declared.place.Place.{Place}
use Rattle.arch_types.specs.declared.arch.CellModel.{CellModel}
use Rattle.blif_lines.specs.Lines.{LineSaid}
use Rattle.blif_elems.specs.Statements.{Said}
use Rattle.blif_phases.specs.declared.phase.Phase.{Phase}
use Rattle.blif_phases.specs.declared.phase.Phase.TheVariants.{Before, Inside, Behind, Later, BlackBox}
use Rattle.blif_phases.specs.Phases.{StopSaid, stops_bad, stops_wide, stops_latch, stops_unread, stops_stray, GoesOn, StopsAt}
use Rattle.blif_errors.specs.declared.error.BlifError.{BlifError}
use Rattle.blif_errors.specs.declared.error.BlifError.TheVariants.{BadLine, LatchKind, Unsupported}
use Rattle.blif_parts.specs.Models.{ModelSaid, no_model}
use Rattle.blif_parts.specs.Adds.{Adds}
use Rattle.blif_parts.specs.Refusals.{CantAdd, IsWideRefusal, IsStrayRefusal}

-- from the phase and the model so far the lines lead to these
abbrev pub AreRead : List CellModel → Phase → ModelSaid → List LineSaid → Phase → ModelSaid → Type 0
AreRead models phase m [] last all = (last ≡ phase) × (all ≡ m)
AreRead models phase m (l ∷ ls) last all =
    (next : Phase) × (s : Said) × (new : ModelSaid) × GoesOn phase l next s × Adds models m s new
    × AreRead models next new ls last all

-- why a line that stops is refused
abbrev pub IsStopRefusal : List CellModel → ModelSaid → StopSaid → Place → BlifError → Type 0
IsStopRefusal models m stops_bad place e = e ≡ BadLine place
IsStopRefusal models m (stops_wide output) place e = IsWideRefusal m output place e
IsStopRefusal models m (stops_latch made) place e = e ≡ LatchKind made
IsStopRefusal models m (stops_unread word) place e = e ≡ Unsupported word
IsStopRefusal models m (stops_stray name) place e = IsStrayRefusal models name place e

-- the line is refused, by its words and where it stands, or by what the lines before it say
abbrev pub IsLineRefused : List CellModel → Phase → ModelSaid → LineSaid → BlifError → Type 0
IsLineRefused models phase m l e =
    ((stop : StopSaid) × StopsAt phase l stop × IsStopRefusal models m stop l.place e)
    ⊎ ((next : Phase) × (s : Said) × GoesOn phase l next s × CantAdd models m s l.place e)

-- the first line that is refused: those before it are read
abbrev pub IsFirstRefused : List CellModel → Phase → ModelSaid → List LineSaid → BlifError → Type 0
IsFirstRefused models phase m [] e = ⊥
IsFirstRefused models phase m (l ∷ ls) e =
    IsLineRefused models phase m l e
    ⊎ ((next : Phase) × (s : Said) × (new : ModelSaid) × GoesOn phase l next s × Adds models m s new
    × IsFirstRefused models next new ls e)

-- a file may end in its model, behind a model, or in a black box
abbrev pub MayEnd : Phase → Type 0
MayEnd Before = ⊥
MayEnd Inside = Unit {0}
MayEnd Behind = Unit {0}
MayEnd Later = ⊥
MayEnd BlackBox = Unit {0}

-- why a file can't end there: no line has a word, which is told behind the last byte, or a later
-- model is no black box
abbrev pub CantEnd : Phase → Place → BlifError → Type 0
CantEnd Before end e = e ≡ BadLine end
CantEnd Inside end e = ⊥
CantEnd Behind end e = ⊥
CantEnd Later end e = e ≡ Unsupported (codes ".model")
CantEnd BlackBox end e = ⊥

-- the lines of a file say this model
pub record SayModel (models : List CellModel) (ls : List LineSaid) (m : ModelSaid) : Type 0 where
  pub last : Phase
  pub read : AreRead models Before no_model ls last m
  pub may_end : MayEnd last

-- all lines are read, but the file can't end there
pub record EndsTooEarly (models : List CellModel) (ls : List LineSaid) (end : Place) (e : BlifError) : Type 0 where
  pub last : Phase
  pub all : ModelSaid
  pub read : AreRead models Before no_model ls last all
  pub cant_end : CantEnd last end e

-- why the lines of a file, behind whose last byte that place is, say no model
abbrev pub SayNoModel : List CellModel → List LineSaid → Place → BlifError → Type 0
SayNoModel models ls end e = IsFirstRefused models Before no_model ls e ⊎ EndsTooEarly models ls end e
