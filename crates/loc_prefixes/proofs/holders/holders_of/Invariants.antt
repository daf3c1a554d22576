use Rattle.std.proofs.Common.{take}
use Rattle.loc_prefixes.specs.Holders.{AreHolders}
use Rattle.loc_prefixes.proofs.holders.holders_of.Given as goal

abbrev pub invariant-loop-place : goal.invariant-loop-place
invariant-loop-place l = AreHolders (take l.place l.singles) l.holders
