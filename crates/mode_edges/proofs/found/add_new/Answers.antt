use Rattle.mode_edges.proofs.PairKeys.{keeps_pair, takes_pair}
use Rattle.mode_edges.proofs.found.add_new.Goals as goal

pub returns-then-contains_key : goal.returns-then-contains_key
returns-then-contains_key c = keeps_pair c.args.found.now c.args.pair c.args.inter c.contains_key.result c.contains_key.ensures c.if-contains_key.true

pub returns : goal.returns
returns c =
    takes_pair c.args.found.now c.insert.new.self c.args.pair c.args.inter c.contains_key.result c.contains_key.ensures c.if-contains_key.false
    c.in_ok-insert.ensures.entries
