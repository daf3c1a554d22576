use Rattle.pattern_marks.proofs.PinSets.{contains_says}
use Rattle.pattern_marks.proofs.pins.has_pin.Goals as goal

pub returns : goal.returns
returns c = contains_says c.args.set.now.keys c.args.pin c.contains.result c.contains.ensures
