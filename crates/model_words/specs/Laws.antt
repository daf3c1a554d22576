-- What the lines of a file say, and how long they are together.
use Rattle.std.specs.Prelude.{◌≤◌, ℕ, List, length}
use Rattle.std.specs.List.{sum_by}
use Rattle.vtr_base.specs.Lists.{Has}
use Rattle.blif_lines.specs.Lines.{LineSaid}
use Rattle.blif_elems.specs.Statements.{Said}
use Rattle.blif_phases.specs.declared.phase.Phase.{Phase}
use Rattle.blif_phases.specs.Phases.{GoesOn}
use Rattle.model_words.specs.Plain.{IsPlain}

-- wherever the line stands, it says no more than it has bytes, in plain words
abbrev pub SaysPlain : LineSaid → Type 0
SaysPlain l = (phase next : Phase) (s : Said) → GoesOn phase l next s → IsPlain (length l.text) s

pub record HavePlainWords (bytes : List ℕ) (ls : List LineSaid) : Type 0 where
  pub each : (l : LineSaid) → Has ls l → SaysPlain l
  -- the texts of all lines together are no longer than the file
  pub few : sum_by (λ l. length l.text) ls ≤ length bytes
