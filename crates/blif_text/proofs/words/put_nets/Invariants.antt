use Rattle.std.proofs.Common.{◌≡◌, ◌++◌, drop}
use Rattle.blif_text.specs.Words.{nets_text}
use Rattle.blif_text.proofs.words.put_nets.Given as goal

abbrev pub invariant-loop-conn : goal.invariant-loop-conn
invariant-loop-conn l = l.out.items ++ nets_text l.nets (drop l.conn-index l.conns) ≡ l.initial.out.items ++ nets_text l.nets l.conns
