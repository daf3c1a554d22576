use Rattle.std.proofs.Common.{◌≡◌, ◌+◌, ◌-◌, ◌++◌, take}
use Rattle.std.specs.List.{flat_map}
use Rattle.prog_map.specs.Levels.{mode_sites, sites_under}
use Rattle.prog_map.proofs.sites.+under.Given as goal

abbrev pub decreases-push_under : goal.decreases-push_under
decreases-push_under l = l.levels + l.levels

abbrev pub decreases-push_mode : goal.decreases-push_mode
decreases-push_mode l = (l.levels + l.levels) + 1

abbrev pub invariant-push_under-loop-mode : goal.invariant-push_under-loop-mode
invariant-push_under-loop-mode l =
    l.sites ≡ l.initial.sites ++ flat_map (λ mode. mode_sites l.graph (λ kid. sites_under l.graph (l.levels - 1) kid) l.pb.0 mode) (take l.mode-index l.mode-items)

abbrev pub invariant-push_mode-loop-kid : goal.invariant-push_mode-loop-kid
invariant-push_mode-loop-kid l = l.sites ≡ l.initial.sites ++ flat_map (λ kid. sites_under l.graph l.levels kid) (take l.kid-index l.kid-items)
