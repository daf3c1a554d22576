use Rattle.std.proofs.Common.{refl}
use Rattle.shelf_kit.proofs.Files.{nothing_appended}
use Rattle.shelf_kit.proofs.memory.MemShelfShelf.append.Goals as goal

pub returns-then-starts_failing-clause-failed : goal.returns-then-starts_failing-clause-failed
returns-then-starts_failing-clause-failed c = λ _. (c.if-starts_failing.ensures.rose refl, nothing_appended c.args.self.now.files c.args.name.now c.args.piece.now c.requires)
