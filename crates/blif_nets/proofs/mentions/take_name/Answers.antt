use Rattle.std.proofs.Common.{sym, ◌∙◌}
use Rattle.blif_nets.proofs.Counting.{known_name, unknown_name, new_name}
use Rattle.blif_nets.proofs.mentions.take_name.Goals as goal

pub returns-then-is_some : goal.returns-then-is_some
returns-then-is_some c = known_name c.args.names.now c.args.names.now c.args.name.now c.find.result (sym c.is_some.ensures ∙ c.if-is_some.true) c.find.ensures

pub returns : goal.returns
returns c =
    new_name c.args.names.now c.number.new.self c.args.name.now
    (unknown_name c.args.names.now c.args.name.now c.find.result (sym c.is_some.ensures ∙ c.if-is_some.false) c.find.ensures) c.in_ok-number.ensures.names
