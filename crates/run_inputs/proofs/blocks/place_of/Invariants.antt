use Rattle.run_inputs.specs.Architectures.{names_of}
use Rattle.run_inputs.proofs.Named.{NoneBefore}
use Rattle.run_inputs.proofs.blocks.place_of.Given as goal

abbrev pub invariant-loop-number : goal.invariant-loop-number
invariant-loop-number l = NoneBefore (names_of l.blocks) l.name l.number
