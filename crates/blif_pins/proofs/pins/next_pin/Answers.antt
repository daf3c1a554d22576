use Rattle.std.proofs.Common.{sym, ap, ◌∙◌}
use Rattle.blif_boxes.specs.Seen.{pin_said}
use Rattle.blif_pins.proofs.Pinning.{same_port, at_port, side_of, old_key, new_key, taken_before, taken_more, next_is}
use Rattle.blif_pins.proofs.pins.next_pin.Goals as goal

pub returns-in_default : goal.returns-in_default
returns-in_default c = λ before taken p is. c.in_default.ensures p is.says

pub returns-in_default-find : goal.returns-in_default-find
returns-in_default-find c = λ before taken p is.
    same_port c.args.ports.now.model p (pin_said c.in-Some.said) c.as_bytes.result.now (c.one_reading.ensures c.args.word.now p (pin_said c.in-Some.said) is.says c.in-Some.ensures) c.as_bytes.ensures.value
    c.in_default-find.ensures is.port

pub returns-then-not-branch : goal.returns-then-not-branch
returns-then-not-branch c =
    let q = pin_said c.in-Some.said in
    let port = c.in-Some-find.port in
    let at = at_port c.args.ports.now c.as_bytes.result.now q.port port.number port.is_output c.in-Some-find.ensures c.as_bytes.ensures.value in
    λ before taken p is.
    is.new (taken_before c.args.ports.now.names c.args.keys.now.keys before p q port.number at (c.one_reading.ensures c.args.word.now p q is.says c.in-Some.ensures) taken
    (old_key c.args.keys.now.keys c.take_key.new.keys.keys (port.number, q.bit) c.in_ok-take_key.field-0 c.if-not-branch.true c.in_ok-take_key.ensures))

pub returns : goal.returns
returns c =
    let q = pin_said c.in-Some.said in
    let port = c.in-Some-find.port in
    let t = c.args.ports.now in
    let keys = c.args.keys.now.keys in
    let at = at_port t c.as_bytes.result.now q.port port.number port.is_output c.in-Some-find.ensures c.as_bytes.ensures.value in
    let key = new_key keys c.take_key.new.keys.keys (port.number, q.bit) c.in_ok-take_key.field-0 c.if-not-branch.false c.in_ok-take_key.ensures in
    λ before taken. (
      next_is t c.law.ensures keys before c.args.word.now q port.number at taken key.0 c.in-Some.ensures,
      side_of t c.as_bytes.result.now q.port port.number port.is_output c.in-Some-find.ensures c.as_bytes.ensures.value,
      taken_more t.names keys before q port.number at taken c.take_key.new.keys.keys key.1,
    )
