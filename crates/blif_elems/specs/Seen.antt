-- What clauses see of a statement, and of a fault.
use denote.Bor.{Bor}
use Rattle.std.specs.Prelude.{ℕ, List, map}
use Rattle.blif_elems.specs.declared.statement.Statement.{Statement}
use Rattle.blif_elems.specs.declared.statement.Statement.TheVariants.{Nothing, Model, Inputs, Outputs, Names, Latch, Box, Param, Passed, End, Row}
use Rattle.blif_elems.specs.declared.fault.Fault.{Fault}
use Rattle.blif_elems.specs.declared.fault.Fault.TheVariants.{BadLine, WideNames, LatchKind, Unsupported}
use Rattle.blif_elems.specs.Statements.{Said, says_nothing, says_model, says_inputs, says_outputs, says_names, says_latch, says_box, says_param, says_passed, says_end, says_row}
use Rattle.blif_elems.specs.Faults.{FaultSaid, is_bad, is_wide, is_other_latch, is_unread}

abbrev pub texts : List (Bor (List ℕ)) → List (List ℕ)
texts words = map (λ w. w.now) words

abbrev pub said : Statement → Said
said Nothing = says_nothing
said (Model name) = says_model name.now
said (Inputs nets) = says_inputs (texts nets.now)
said (Outputs nets) = says_outputs (texts nets.now)
said (Names inputs output) = says_names (texts inputs.now) output.now
said (Latch loaded made control) = says_latch loaded.now made.now control.now
said (Box model pins) = says_box model.now (texts pins.now)
said (Param name value) = says_param name.now value.now
said Passed = says_passed
said End = says_end
said (Row words) = says_row (texts words.now)

abbrev pub fault_said : Fault → FaultSaid
fault_said BadLine = is_bad
fault_said (WideNames net) = is_wide net.now
fault_said (LatchKind net) = is_other_latch net.now
fault_said (Unsupported word) = is_unread word.now
