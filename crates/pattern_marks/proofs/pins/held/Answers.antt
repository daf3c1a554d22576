use Rattle.std.proofs.Common.{List, subst}
use Rattle.list_laws.specs.Orders.{HaveSame}
use Rattle.mode_edges.specs.declared.pin.LocalPin.{LocalPin}
use Rattle.pattern_marks.proofs.PinSets.{held_all, held_none, none_says, some_says}
use Rattle.pattern_marks.proofs.pins.held.Goals as goal

pub returns-in_default : goal.returns-in_default
returns-in_default c =
    held_none c.args.names.now.block c.args.names.now.mode c.args.role c.args.text.now c.new.result.keys (none_says c.in_ok-pins.field-0 _ _ c.in_default.is c.in_ok-pins.ensures) c.new.ensures.empty

pub returns : goal.returns
returns c =
    held_all c.args.names.now.block c.args.names.now.mode c.args.role c.args.text.now c.in-Some.pins.items c.in_ok-set_of.field-0.keys c.one_reading.ensures
    (some_says c.in_ok-pins.field-0 c.in-Some.pins _ _ c.in-Some.is c.in_ok-pins.ensures)
    (subst (λ (l : List LocalPin). HaveSame {X = LocalPin} c.in_ok-set_of.field-0.keys l) c.as_slice.ensures.value c.in_ok-set_of.ensures)
