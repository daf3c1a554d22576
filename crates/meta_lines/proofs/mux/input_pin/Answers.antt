use Rattle.std.proofs.Common.{sym, ◌∙◌}
use Rattle.meta_lines.proofs.Keys.{any_has, none_has}
use Rattle.meta_lines.proofs.Listing.{some_says, none_says}
use Rattle.meta_lines.proofs.Pinned.{pin_known, pin_unknown}
use Rattle.meta_lines.proofs.mux.input_pin.Goals as goal

pub returns-in_default : goal.returns-in_default
returns-in_default c = λ pin names. none_says c.in_ok-pin.field-0 _ _ c.in_default.is c.in_ok-pin.ensures pin names.reads

pub returns-then-contains : goal.returns-then-contains
returns-then-contains c =
    pin_known c.args.names.now.block c.args.names.now.mode c.args.inter.now c.args.text.now c.in-Some.pin
    (some_says c.in_ok-pin.field-0 c.in-Some.pin _ _ c.in-Some.is c.in_ok-pin.ensures)
    ((c.requires c.in-Some.pin).0 (any_has c.args.inputs.now.keys c.in-Some.pin (sym c.contains.ensures ∙ c.if-contains.true)))

pub returns-else-contains : goal.returns-else-contains
returns-else-contains c =
    pin_unknown c.one_reading.ensures c.args.names.now.block c.args.names.now.mode c.args.inter.now c.args.inputs.now.keys c.args.text.now c.in-Some.pin c.requires
    (some_says c.in_ok-pin.field-0 c.in-Some.pin _ _ c.in-Some.is c.in_ok-pin.ensures)
    (none_has c.args.inputs.now.keys c.in-Some.pin (sym c.contains.ensures ∙ c.if-contains.false))
