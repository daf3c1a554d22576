use Rattle.std.specs.Prelude.{map, string_bytes}
use Rattle.run_words.specs.Readings.{parts_in}
use Rattle.run_words.proofs.Rest.{IsReading}
use Rattle.run_words.proofs.read.read_rest.Given as goal

abbrev pub invariant-loop-place : goal.invariant-loop-place
invariant-loop-place l = IsReading l.shape (map string_bytes l.rest) l.place (parts_in l.reading)
