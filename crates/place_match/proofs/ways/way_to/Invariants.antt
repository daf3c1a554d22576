use Rattle.std.proofs.Common.{◌<◌, All, vec_len}
use Rattle.place_match.proofs.ways.way_to.Given as goal

abbrev pub invariant-loop : goal.invariant-loop
invariant-loop l = record {
  within : l.site_kind < vec_len l.links.by_site.first;
  more : All (λ link. link < vec_len l.links.by_block.kinds) l.more.items;
  less : All (λ link. link < vec_len l.links.by_block.kinds) l.less.items;
}
