-- The set has the pairs that were passed.
use Rattle.std.proofs.Common.{◌≡◌, ℕ, take}
use Rattle.std.specs.List.{list_any}
use Rattle.anneal_placer.proofs.Fits.{same_pair}
use Rattle.anneal_placer.proofs.pairing.Pairing.of.Given as goal

abbrev pub invariant-loop-pair : goal.invariant-loop-pair
invariant-loop-pair l = (pair : ℕ × ℕ) → list_any (same_pair pair) l.pairs.keys ≡ list_any (same_pair pair) (take l.pair-index l.fits)
