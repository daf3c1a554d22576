use Rattle.std.proofs.Common.{◌≡◌, ◌+◌, ◌^◌, take}
use Rattle.std.specs.List.{sum_by}
use Rattle.rr_locs.proofs.listing.fit_limit.Given as goal

abbrev pub invariant-loop-root : goal.invariant-loop-root
invariant-loop-root l = l.left + sum_by (λ root. root.capacity) (take l.root-index l.roots) ≡ 2 ^ 20
