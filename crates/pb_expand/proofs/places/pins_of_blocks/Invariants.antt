use Rattle.std.proofs.Common.{[], map, drop}
use Rattle.pb_expand.specs.Making.{pins_over}
use Rattle.pb_expand.proofs.Fills.{Fills}
use Rattle.pb_expand.proofs.places.pins_of_blocks.Given as goal

abbrev pub invariant-loop-pb : goal.invariant-loop-pb
invariant-loop-pb l = Fills [] l.pins.items (pins_over l.pb (drop l.pb (map (λ b. b.now) l.blocks))) (pins_over 0 (map (λ b. b.now) l.blocks))
