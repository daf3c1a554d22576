use Rattle.std.proofs.Common.{map, refl}
use Rattle.blif_pins.specs.Seen.{said}
use Rattle.blif_drafts.proofs.Boxed.{added_box}
use Rattle.blif_drafts.proofs.draft.Draft.add_pins.Goals as goal

pub returns-clause-added : goal.returns-clause-added
returns-clause-added c = λ models name words model m held found is are sides.
    added_box models name words model m c.args.self.now _ c.args.number (map said c.args.pins.now) c.in_ok-name.placed c.in_ok-name.name c.open_box.result held found is are (c.in_ok-name.ensures.made model sides) c.open_box.ensures
    c.in_ok-open.ensures refl refl
