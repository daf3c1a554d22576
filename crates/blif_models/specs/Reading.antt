-- What one line does.
use Rattle.std.specs.Prelude.{List}
use Rattle.arch_types.specs.declared.arch.CellModel.{CellModel}
use Rattle.blif_elems.specs.Statements.{Said}
use Rattle.blif_drafts.specs.Seen.{Holds}
use Rattle.blif_lines.specs.Lines.{LineSaid}
use Rattle.blif_parts.specs.Adds.{Adds}
use Rattle.blif_parts.specs.Models.{ModelSaid}
use Rattle.blif_phases.specs.declared.phase.Phase.{Phase}
use Rattle.blif_phases.specs.Phases.{GoesOn}
use Rattle.blif_models.specs.declared.reading.Reading.{Reading}

-- the line is read, and this is how far the file is read then
pub record ReadsLine (models : List CellModel) (phase : Phase) (m : ModelSaid) (l : LineSaid) (r : Reading) : Type 0 where
  pub said : Said
  pub goes : GoesOn phase l r.phase said
  pub new : ModelSaid
  pub adds : Adds models m said new
  pub holds : Holds new r.draft
