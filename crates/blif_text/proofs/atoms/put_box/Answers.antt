use Rattle.std.proofs.Common.{◌<◌, Bor, length, sym, subst}
use Rattle.std.specs.List.{All}
use Rattle.net_types.specs.declared.atom.Conn.{Conn}
use Rattle.blif_text.proofs.Merged.{pins_below}
use Rattle.blif_text.proofs.atoms.put_box.Goals as goal

pub put_pins-requires : goal.put_pins-requires
put_pins-requires c =
    subst (All (λ (b : Bor Conn). b.now.net < length c.args.nets.now)) (sym c.as_slice.ensures.value)
    (pins_below (length c.args.nets.now) c.args.atom.now c.in_ok-pins.pins.items c.in_ok-pins.ensures c.requires.ins c.requires.outs)
