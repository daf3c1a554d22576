use Rattle.pin_texts.proofs.Spelling.{pin_spelled}
use Rattle.pin_texts.proofs.laws.text_pins.Goals as goal

pub returns : goal.returns
returns c = pin_spelled
