use Rattle.std.proofs.Common.{◌≡◌, ◌++◌, drop}
use Rattle.blif_errors.specs.Telling.{commas}
use Rattle.blif_errors.proofs.telling.put_commas.Given as goal

abbrev pub invariant-loop-name : goal.invariant-loop-name
invariant-loop-name l = l.text ++ commas (drop l.name-index l.names) ≡ l.initial.text ++ commas l.names
