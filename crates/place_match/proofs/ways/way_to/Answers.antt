use Rattle.std.proofs.Common.{◌<◌, length, vec_len, ◌∙◌, arith}
use Rattle.std.proofs.lemmas.List.{get_or_default}
use Rattle.std.proofs.lemmas.List.Elements.{All-push}
use Rattle.place_match.proofs.ways.way_to.Goals as goal
use Rattle.place_match.proofs.ways.way_to.Goals.{else-loop-test, then-loop-test+in_default, then-loop-test+in-Some+in_ok-push+in_default-blocks_by}

pub loop-preserved : goal.loop-preserved
loop-preserved c =
    let more_in : c.in-Some.link < vec_len c.args.links.now.by_block.kinds = c.requires.site_links c.loop.site_kind c.in-Some.link c.in-Some.is in
    let less_in : c.in-Some-blocks_by.from < vec_len c.args.links.now.by_block.kinds =
    c.requires.block_links c.index.result.now c.in-Some-blocks_by.from c.in-Some-blocks_by.is in
    let site_in : c.in-Some-blocks_by.from < length c.args.links.now.by_site.kinds.items =
    omega (arith, less_in, c.requires.links.each, c.args.links.now.by_block.kinds.ok) in
    let is = c.index-in-loop.ensures ∙ get_or_default c.args.links.now.by_site.kinds.items c.in-Some-blocks_by.from c.index-in-loop.result.now 0 site_in in
    record {
      within = omega (arith, is, c.requires.links.site_within c.in-Some-blocks_by.from site_in, c.args.links.now.by_site.first.ok);
      more = rw c.in_ok-push.ensures.items (All-push (λ link. link < vec_len c.args.links.now.by_block.kinds) c.loop.more.items c.in-Some.link c.loop.invariant.more more_in);
      less = rw c.in_ok-push-2.ensures.items (All-push (λ link. link < vec_len c.args.links.now.by_block.kinds) c.loop.less.items c.in-Some-blocks_by.from c.loop.invariant.less less_in);
    }

pub returns-clause-more : goal.returns-clause-more
returns-clause-more c =
    elim c.loop-test.branch [
      | else-loop-test w ↦ rw w.more-is c.loop.invariant.more
      | then-loop-test+in_default w ↦ rw w.more-is c.loop.invariant.more
      | then-loop-test+in-Some+in_ok-push+in_default-blocks_by w ↦ rw (w.more-is, w.in_ok-push.ensures.items)
          (All-push (λ link. link < vec_len c.args.links.now.by_block.kinds) c.loop.more.items w.in-Some.link c.loop.invariant.more
          (c.requires.site_links c.loop.site_kind w.in-Some.link w.in-Some.is))
    ]
