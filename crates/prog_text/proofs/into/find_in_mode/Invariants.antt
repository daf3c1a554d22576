use Rattle.prog_text.proofs.Wanted.{NoneIn}
use Rattle.prog_text.proofs.into.find_in_mode.Given as goal

abbrev pub invariant-loop-edge : goal.invariant-loop-edge
invariant-loop-edge l = NoneIn l.graph l.edge-items l.edge-index l.pin.0 l.owner.0 l.mode l.wanted
