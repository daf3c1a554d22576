-- What clauses see of a pin's word.
use Rattle.blif_boxes.specs.declared.word.Actual.{Actual}
use Rattle.blif_boxes.specs.declared.word.Actual.TheVariants.{Unconnected, Net}
use Rattle.blif_boxes.specs.declared.word.PinWord.{PinWord}
use Rattle.blif_boxes.specs.Pins.{ActualSaid, says_unconnected, says_net, PinSaid}

abbrev pub actual_said : Actual → ActualSaid
actual_said Unconnected = says_unconnected
actual_said (Net name) = says_net name.now

abbrev pub pin_said : PinWord → PinSaid
pin_said p = record { port = p.port.now; bit = p.bit; actual = actual_said p.actual }
