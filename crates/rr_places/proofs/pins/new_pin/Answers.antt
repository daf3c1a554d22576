use Rattle.std.proofs.Common.{inl}
use Rattle.rr_places.proofs.pins.new_pin.Goals as goal

pub returns-in-Some : goal.returns-in-Some
returns-in-Some c = inl (c.in-Some.field-0.now, c.in-Some.ensures)
