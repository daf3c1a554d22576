use Rattle.std.proofs.Common.{◌≡◌, take}
use Rattle.arch_links.proofs.site.are_alike.Given as goal

abbrev pub invariant-loop-i : goal.invariant-loop-i
invariant-loop-i l = take l.i l.ports ≡ take l.i l.others
