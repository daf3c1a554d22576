-- A line is read in one way.
use Rattle.std.specs.Prelude.{◌≡◌}
use Rattle.blif_lines.specs.Lines.{LineSaid}
use Rattle.blif_elems.specs.Statements.{Said}
use Rattle.blif_phases.specs.declared.phase.Phase.{Phase}
use Rattle.blif_phases.specs.Phases.{StopSaid, GoesOn, StopsAt}

abbrev pub HasOneStep : Type 0
HasOneStep = (phase : Phase) (l : LineSaid) (m n : Phase) (s t : Said) → GoesOn phase l m s → GoesOn phase l n t → (m ≡ n) × (s ≡ t)

abbrev pub HasOneStop : Type 0
HasOneStop = (phase : Phase) (l : LineSaid) (s t : StopSaid) → StopsAt phase l s → StopsAt phase l t → s ≡ t

abbrev pub NeverBoth : Type 0
NeverBoth = (phase : Phase) (l : LineSaid) (next : Phase) (s : Said) (t : StopSaid) → GoesOn phase l next s → StopsAt phase l t → ⊥
