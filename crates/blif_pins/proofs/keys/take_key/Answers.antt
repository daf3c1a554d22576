use Rattle.blif_pins.proofs.Pairs.{takes}
use Rattle.blif_pins.proofs.keys.take_key.Goals as goal

pub returns : goal.returns
returns c = takes c.args.keys.now.keys c.insert.new.self.keys c.args.key c.in_ok-is_new.is_new c.in_ok-is_new.ensures.added c.in_ok-is_new.ensures.keys
