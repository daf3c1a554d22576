use Rattle.std.proofs.Common.{◌≡◌, ◌++◌, drop}
use Rattle.blif_text.specs.Boxes.{params_text}
use Rattle.blif_text.proofs.boxes.put_params.Given as goal

abbrev pub invariant-loop-name : goal.invariant-loop-name
invariant-loop-name l = l.out.items ++ params_text (drop l.name-index l.params) ≡ l.initial.out.items ++ params_text l.params
