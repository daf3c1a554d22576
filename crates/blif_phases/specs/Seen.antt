-- What clauses see of a line's words, and of a stop.
use Rattle.std.specs.Prelude.{◌≡◌, ℕ, Bool, true, List}
use Rattle.vtr_base.specs.Spans.{AreWords}
use Rattle.blif_lines.specs.Lines.{LineSaid}
use Rattle.blif_phases.specs.declared.stop.Stop.{Stop}
use Rattle.blif_phases.specs.declared.stop.Stop.TheVariants.{BadLine, WideNames, LatchKind, Unsupported, StrayBox}
use Rattle.blif_phases.specs.Phases.{StopSaid, stops_bad, stops_wide, stops_latch, stops_unread, stops_stray}

-- it is told of the line whether it is UTF-8, and if so these are its words
pub record Holds (l : LineSaid) (is_utf8 : Bool) (words : List (List ℕ)) : Type 0 where
  pub told : l.is_utf8 ≡ is_utf8
  pub are : is_utf8 ≡ true → AreWords l.text words

abbrev pub stop_said : Stop → StopSaid
stop_said BadLine = stops_bad
stop_said (WideNames net) = stops_wide net.now
stop_said (LatchKind net) = stops_latch net.now
stop_said (Unsupported word) = stops_unread word.now
stop_said (StrayBox model) = stops_stray model.now
