use Rattle.mode_edges.proofs.Verdicts.{reads_none, reads_pin}
use Rattle.std.proofs.Common.{[], ◌∷◌}
use Rattle.mode_edges.proofs.names.ModeNames.read_pin.Goals as goal

pub returns-in_default : goal.returns-in_default
returns-in_default c pin =
    reads_none c.args.self.now.block c.args.self.now.mode c.args.role c.args.text.now (rw c.in_default.is at c.in_ok-found.ensures) (pin ∷ [])

pub returns : goal.returns
returns c =
    reads_pin c.args.self.now.block c.args.self.now.mode c.args.role c.args.text.now c.in-Some.found.items c.as_slice.result.now c.only_pin.result
    (rw c.in-Some.is at c.in_ok-found.ensures) c.as_slice.ensures.value c.only_pin.ensures
