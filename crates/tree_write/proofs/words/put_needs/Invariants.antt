use Rattle.std.proofs.Common.{◌≡◌, ◌++◌, take}
use Rattle.std.specs.List.{flat_map}
use Rattle.tree_write.specs.Spelling.{need_word}
use Rattle.tree_write.proofs.words.put_needs.Given as goal

abbrev pub invariant-loop-need : goal.invariant-loop-need
invariant-loop-need l = l.out.items ≡ l.initial.out.items ++ flat_map need_word (take l.need-index l.needs)
