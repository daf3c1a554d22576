use Rattle.link_lists.proofs.Words.{next_is_first, around_from_least}
use Rattle.link_lists.proofs.bits.next_around.Goals as goal

pub returns-in-Some : goal.returns-in-Some
returns-in-Some c = next_is_first _ _ _ c.in-Some.ensures

pub returns-in-None : goal.returns-in-None
returns-in-None c = around_from_least c.args.words.now c.args.from c.next_from-in-None.result c.in-None.ensures c.next_from-in-None.ensures
