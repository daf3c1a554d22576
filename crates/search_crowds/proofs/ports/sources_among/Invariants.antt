use Rattle.search_crowds.proofs.Webbing.{AreSourcesSoFar}
use Rattle.search_crowds.proofs.ports.sources_among.Given as goal

abbrev pub invariant-loop-pin : goal.invariant-loop-pin
invariant-loop-pin l = AreSourcesSoFar l.graph l.net.atoms l.task l.trail.made l.needs l.pins l.pin-index l.sources.items
