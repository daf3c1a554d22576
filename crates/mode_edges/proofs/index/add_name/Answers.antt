use Rattle.mode_edges.proofs.Indexes.{keeps_name, takes_name}
use Rattle.mode_edges.proofs.index.add_name.Goals as goal

pub returns-in_ok-insert : goal.returns-in_ok-insert
returns-in_ok-insert c =
    takes_name c.args.index.now c.insert.new.self c.args.name c.args.place c.in_ok-place_number.field-0 c.contains_key.result c.contains_key.ensures
    c.if-not-contains_key.true c.in_ok-place_number.ensures c.in_ok-insert.ensures.entries

pub returns-else-not-contains_key : goal.returns-else-not-contains_key
returns-else-not-contains_key c =
    keeps_name c.args.index.now c.args.name.now c.args.place c.contains_key.result c.contains_key.ensures c.if-not-contains_key.false
