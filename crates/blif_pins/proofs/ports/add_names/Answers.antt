use Rattle.blif_pins.proofs.Porting.{adds_none, adds_next, adds_all}
use Rattle.blif_pins.proofs.ports.add_names.Goals as goal

pub loop-name-init : goal.loop-name-init
loop-name-init c = adds_none c.args.names.now

pub loop-name-preserved : goal.loop-name-preserved
loop-name-preserved c =
    adds_next c.args.names.now c.args.more.now c.loop-name.names c.add_name.new.names c.loop-name.name-index c.name-item.result c.as_bytes.result.now c.loop-name-test.true c.name-item.is c.as_bytes.ensures
    c.loop-name.invariant c.in_ok-add_name.ensures

pub returns : goal.returns
returns c = adds_all c.args.names.now c.args.more.now c.loop-name.names c.loop-name.name-index c.loop-name-test.false c.loop-name.invariant
