use Rattle.std.proofs.Common.{map, sym, subst}
use Rattle.std.specs.Option.{option_copied}
use Rattle.rr_places.specs.Reading.{IsFirstRefused, OrMemory}
use Rattle.rr_places.specs.Pins.{SaysPin, ptc_of, IsBadPin, AreClasses}
use Rattle.rr_places.specs.PinElems.{seen_pin}
use Rattle.rr_places.proofs.Reading.{seen_at, read_next, refused_here, passed_with, or_refused}
use Rattle.rr_places.proofs.Classes.{classes_more, seen_of}
use Rattle.rr_places.proofs.pins.list_pins.Goals as goal

pub returns-in_err-ptc-clause-refused : goal.returns-in_err-ptc-clause-refused
returns-in_err-ptc-clause-refused c =
    let tile = option_copied c.args.tile in
    let items = map seen_pin c.args.elems.now in
    let at = seen_at seen_pin c.args.elems.now c.loop-item.item-index c.item-item.result c.loop-item-test.true c.item-item.is in
    passed_with (OrMemory (IsFirstRefused (SaysPin tile) ptc_of (IsBadPin tile) items)) c.from_residual.result c.in_err-ptc.field-0.0 c.from_residual.ensures.1
    (or_refused (IsBadPin tile c.loop-item.by_ptc.entries (seen_pin c.item-item.result)) (IsFirstRefused (SaysPin tile) ptc_of (IsBadPin tile) items) c.in_err-ptc.field-0.0
    (λ bad. refused_here (SaysPin tile) ptc_of items c.loop-item.item-index c.loop-item.by_ptc.entries c.loop-item.invariant.0 (IsBadPin tile) (seen_pin c.item-item.result)
    c.in_err-ptc.field-0.0 at bad) c.in_err-ptc.ensures.refused)

pub loop-item-preserved : goal.loop-item-preserved
loop-item-preserved c =
    let tile = option_copied c.args.tile in
    let items = map seen_pin c.args.elems.now in
    let entries = c.loop-item.by_ptc.entries in
    let at = seen_at seen_pin c.args.elems.now c.loop-item.item-index c.item-item.result c.loop-item-test.true c.item-item.is in (
      read_next (SaysPin tile) ptc_of items c.loop-item.item-index entries c.loop-item.invariant.0 (seen_pin c.item-item.result) (c.in_ok-ptc.ptc, c.in_ok-ptc.pin)
          c.add.new.map.entries at c.in_ok-ptc.ensures.said.0 (λ has. c.in_ok-ptc.ensures.said.1 (seen_of entries c.in_ok-ptc.ptc has)) c.in_ok-add.ensures,
      subst (λ l. AreClasses l c.note_class.new.classes.entries) (sym c.in_ok-add.ensures)
          (classes_more entries c.in_ok-ptc.ptc c.in_ok-ptc.pin c.loop-item.classes.entries c.note_class.new.classes.entries c.loop-item.invariant.1 c.in_ok-note_class.ensures),
    )
