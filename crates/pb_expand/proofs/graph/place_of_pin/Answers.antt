use Rattle.pb_expand.proofs.Lists.{place_says}
use Rattle.pb_expand.proofs.Insides.{one_pin, pin_itself}
use Rattle.pb_expand.proofs.graph.place_of_pin.Goals as goal

pub returns : goal.returns
returns c = place_says _ c.args.pins.now.keys _ c.args.pin c.get_index_of.ensures.index (one_pin c.args.pin) (pin_itself c.args.pin)
