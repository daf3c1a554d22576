-- Numbers of kinds are below their counts, and what goes together are blocks and sites that fit.
use Rattle.std.proofs.Common.{rules, ◌≡◌, length, get_or, ap, subst, arith}
use Rattle.std.specs.List.{Contains}
use Rattle.std.proofs.lemmas.List.{get_or_default}
use Rattle.std.proofs.lemmas.List.Elements.{Contains-get_or}
use Rattle.place_match.proofs.Reduction.{reduced, go_by_links}
use Rattle.place_match.proofs.places.unplaced.Goals as goal

pub pairs_of-requires-clause-within : goal.pairs_of-requires-clause-within
pairs_of-requires-clause-within c = λ k d h.
    let link = get_or c.as_slice.result.now k d in
    let there = subst (λ links. Contains links link) c.as_slice.ensures.keys (Contains-get_or c.as_slice.result.now k d h) in
    let known = c.in_ok-links.ensures.only link there in
    omega (arith, known.2.site_within, c.len.ensures.len, c.in_ok-chains.ensures.first)

pub new-requires-2-clause-rows : goal.new-requires-2-clause-rows
new-requires-2-clause-rows c =
    let rows_is : c.in_ok-rows.rows.items ≡ c.in_ok-block_kinds.block_kinds.numbers.items = search rules in
    let numbers = c.in_ok-block_kinds.ensures in
    rw rows_is (λ k d h. omega (arith, get_or_default c.in_ok-block_kinds.block_kinds.numbers.items k d 0 h, numbers.within k (omega (arith, numbers.each, h)), c.len-row_count.ensures.len))

pub new-requires-2-clause-pairs : goal.new-requires-2-clause-pairs
new-requires-2-clause-pairs c = λ k d h.
    let pair = get_or c.in_ok-pairs.pairs.items k d in
    let there = c.in_ok-pairs.ensures.only pair (Contains-get_or c.in_ok-pairs.pairs.items k d h) in
    let linked = subst (λ links. Contains links (pair.0, get_or c.in_ok-chains.chains.kinds.items pair.1 0)) c.as_slice.ensures.keys there.1 in
    let known = c.in_ok-links.ensures.only _ linked in
    let size : length c.in_ok-chains.chains.kinds.items ≡ length c.in_ok-site_kinds.site_kinds.numbers.items = ap length c.in_ok-chains.ensures.kinds in
    (omega (arith, known.2.block_within, c.len-row_count.ensures.len), omega (arith, there.0, size, c.in_ok-site_kinds.ensures.each))

pub begin-requires-clause-joined : goal.begin-requires-clause-joined
begin-requires-clause-joined c =
    let rows_is : c.in_ok-rows.rows.items ≡ c.in_ok-block_kinds.block_kinds.numbers.items = search rules in
    let pairs = rw (c.as_slice.ensures.keys, c.in_ok-chains.ensures.kinds) at c.in_ok-pairs.ensures in
    rw (
      c.deref-2.ensures.value,
      c.in_ok-kinds.ensures.block_kinds,
      c.in_ok-kinds.ensures.site_kinds,
      c.as_slice-2.ensures.keys,
      c.in_ok-chains.ensures.kinds,
      c.in_ok-matching.ensures,
      rows_is,
    )
    (go_by_links c.in_ok-block_kinds.block_kinds.numbers.items c.in_ok-site_kinds.site_kinds.numbers.items c.in_ok-links.links.keys c.in_ok-pairs.pairs.items pairs)

pub begin-requires-clause-blocks : goal.begin-requires-clause-blocks
begin-requires-clause-blocks c =
    let numbers = c.in_ok-block_kinds.ensures in
    rw c.deref-2.ensures.value (λ k d h. omega (
      arith,
      get_or_default c.in_ok-block_kinds.block_kinds.numbers.items k d 0 h,
      numbers.within k (omega (arith, numbers.each, h)),
      c.len-2.ensures.len,
      c.in_ok-kinds.ensures.block_count,
    ))

pub begin-requires-clause-site_kinds : goal.begin-requires-clause-site_kinds
begin-requires-clause-site_kinds c =
    let numbers = c.in_ok-site_kinds.ensures in
    rw c.in_ok-chains.ensures.kinds (λ k d h. omega (
      arith,
      get_or_default c.in_ok-site_kinds.site_kinds.numbers.items k d 0 h,
      numbers.within k (omega (arith, numbers.each, h)),
      c.len.ensures.len,
      c.in_ok-chains.ensures.first,
    ))

pub new-requires-3 : goal.new-requires-3
new-requires-3 c = λ k d h.
    let link = get_or c.as_slice-2.result.now k d in
    let there = subst (λ links. Contains links link) c.as_slice-2.ensures.keys (Contains-get_or c.as_slice-2.result.now k d h) in
    let known = c.in_ok-links.ensures.only link there in (
      omega (arith, known.2.block_within, c.len-2.ensures.len),
      omega (arith, known.2.site_within, c.len.ensures.len, c.len-3.ensures, c.in_ok-chains.ensures.first),
    )

pub returns : goal.returns
returns c =
    let rows_is : c.in_ok-rows.rows.items ≡ c.in_ok-block_kinds.block_kinds.numbers.items = search rules in
    let pairs = rw (c.as_slice.ensures.keys, c.in_ok-chains.ensures.kinds) at c.in_ok-pairs.ensures in
    rw (c.in_ok-begin.ensures, c.in_ok-matching.ensures, rows_is)
    (reduced _ _ _ _ _ _ _ _ _ c.in_ok-block_kinds.ensures c.in_ok-site_kinds.ensures c.in_ok-links.ensures pairs)
