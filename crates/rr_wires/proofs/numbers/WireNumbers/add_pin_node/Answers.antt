use Rattle.std.proofs.Common.{◌∙◌, ap, subst}
use Rattle.std.proofs.lemmas.Result.{on_ok_weaker}
use Rattle.indexmap.proofs.CallerLemmas.{insert_entry-new}
use Rattle.vtr_base.specs.Lists.{Has}
use Rattle.rr_wires.specs.declared.types.WireIx.{WireIx}
use Rattle.rr_wires.specs.Numbering.{Numbering}
use Rattle.rr_wires.proofs.Keys.{key_fresh, pin_eq, pin_same, pin_itself}
use Rattle.rr_wires.proofs.AddedNodes.{pin_started}
use Rattle.rr_wires.proofs.numbers.WireNumbers.add_pin_node.Goals as goal

pub returns : goal.returns
returns c =
    let same = ap (λ (n : Numbering). n.pins) (c.self.view_is ∙ c.in_ok-wire.ensures.1) in
    let none = key_fresh {V = WireIx} pin_eq pin_same pin_itself c.self.inside.pins.entries c.args.pin (λ w has. c.in_default.ensures w (subst (λ l. Has l (c.args.pin, w)) same has)) in
    let more = c.in_ok-insert.ensures.entries ∙ insert_entry-new pin_eq c.self.inside.pins c.args.pin c.in_ok-wire.wire none in
    on_ok_weaker _
    (pin_started c.args.self.now c.start.new.self c.put_node-2.new.self c.self.inside.least.items c.self.inside.nodes.entries c.self.inside.pins.entries c.insert.new.self.entries
    c.args.id c.args.pin c.in_ok-wire.wire c.in_ok-wire.ensures c.self.view_is c.in_default.ensures more)
    c.put_node-2.ensures
