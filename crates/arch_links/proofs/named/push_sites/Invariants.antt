use Rattle.std.proofs.Common.{◌≡◌, ◌++◌, drop}
use Rattle.std.specs.List.{flat_map}
use Rattle.arch_links.specs.Links.{nows, site_name}
use Rattle.arch_links.proofs.named.push_sites.Given as goal

-- what was gathered, and what is still to come, is all
abbrev pub invariant-loop-site : goal.invariant-loop-site
invariant-loop-site l = nows l.names.items ++ flat_map site_name (drop l.site-index l.site-items) ≡ nows l.initial.names.items ++ flat_map site_name l.site-items
