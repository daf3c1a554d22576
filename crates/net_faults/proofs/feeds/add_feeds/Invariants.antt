use Rattle.std.proofs.Common.{take}
use Rattle.net_faults.specs.Steps.{AddsFeeds}
use Rattle.net_faults.proofs.feeds.add_feeds.Given as goal

abbrev pub invariant-loop-conn : goal.invariant-loop-conn
invariant-loop-conn l = AddsFeeds l.atoms l.taker (take l.conn-index l.ins) l.initial.edges.items l.edges.items
