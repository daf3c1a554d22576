-- Each stands where the other stood.
use Rattle.std.proofs.Common.{◌∙◌}
use Rattle.std.proofs.lemmas.List.{get_or_default}
use Rattle.anneal_placer.proofs.Boards.{exchanged_occupants}
use Rattle.anneal_placer.proofs.board.Board.exchange.Goals as goal

pub returns-clause-occupants : goal.returns-clause-occupants
returns-clause-occupants c =
    rw c.swap.ensures.items
    (exchanged_occupants c.args.self.now.places.items c.args.self.now.occupants.items c.args.a c.args.b c.index-here.result.now c.index-there.result.now c.requires.occupants c.requires.a c.requires.b
    (c.index-here.ensures ∙ get_or_default c.args.self.now.places.items c.args.a c.index-here.result.now 0 c.requires.a)
    (c.index-there.ensures ∙ get_or_default c.args.self.now.places.items c.args.b c.index-there.result.now 0 c.requires.b))
