use Rattle.std.proofs.lemmas.List.{set-set}
use Rattle.link_lists.proofs.queue.BucketQueue.lower.Goals as goal

pub returns-in-Some : goal.returns-in-Some
returns-in-Some c = rw (c.push.ensures, c.take_out.ensures, set-set)
