-- The block left its site, and stands on the other.
use Rattle.std.proofs.Common.{◌∙◌}
use Rattle.std.proofs.lemmas.List.{get_or_default}
use Rattle.anneal_placer.proofs.Boards.{moved_occupants}
use Rattle.anneal_placer.proofs.board.Board.move_to.Goals as goal

pub returns-clause-occupants : goal.returns-clause-occupants
returns-clause-occupants c =
    moved_occupants c.args.self.now.places.items c.args.self.now.occupants.items c.args.block c.args.site c.index-home.result.now c.requires.occupants c.requires.block c.requires.site c.requires.free
    (c.index-home.ensures ∙ get_or_default c.args.self.now.places.items c.args.block c.index-home.result.now 0 c.requires.block)
