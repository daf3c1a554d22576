use Rattle.rr_places.proofs.Listing.{listed, unlisted}
use Rattle.rr_places.proofs.switches.Switches.switch.Goals as goal

pub returns-in_err-two_way : goal.returns-in_err-two_way
returns-in_err-two_way c = rw (c.from_residual.ensures, ← c.self.view_is) (unlisted c.self.inside.by_id.entries c.args.id c.in_err-two_way.ensures)

pub returns : goal.returns
returns c = rw (← c.self.view_is) (listed c.self.inside.by_id.entries c.args.id c.in_ok-two_way.field-0.now c.in_ok-two_way.ensures)
