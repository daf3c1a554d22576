use Rattle.std.proofs.Common.{inl, refl, sym, ◌∙◌}
use Rattle.std.proofs.lemmas.Result.{on_ok_weaker}
use Rattle.blif_pins.proofs.Porting.{found_name, unfound_name, added_name}
use Rattle.blif_pins.proofs.ports.add_name.Goals as goal

pub returns-then-is_some : goal.returns-then-is_some
returns-then-is_some c = inl (found_name c.args.names.now c.args.name.now c.find.result (sym c.is_some.ensures ∙ c.if-is_some.true) c.find.ensures, refl)

pub add-requires-clause-fresh : goal.add-requires-clause-fresh
add-requires-clause-fresh c = unfound_name c.args.names.now c.args.name.now c.find.result (sym c.is_some.ensures ∙ c.if-is_some.false) c.find.ensures

pub returns : goal.returns
returns c =
    on_ok_weaker c.add.result
    (added_name c.args.names.now c.add.new.self c.args.name.now
    (unfound_name c.args.names.now c.args.name.now c.find.result (sym c.is_some.ensures ∙ c.if-is_some.false) c.find.ensures)) c.add.ensures.ok
