use Rattle.std.proofs.Common.{◌≡◌, vec_len}
use Rattle.place_match.proofs.flow.flow_of.Given as goal

abbrev pub invariant-loop-kind : goal.invariant-loop-kind
invariant-loop-kind l = vec_len l.amounts ≡ vec_len l.links.by_block.kinds
