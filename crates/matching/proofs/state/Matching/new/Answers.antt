use Rattle.std.proofs.Common.{rules, ◌≡◌, ◌<◌, ◌^◌, length, arith}
use Rattle.std.proofs.lemmas.List.Elements.{same_from_all_zip}
use Rattle.matching.proofs.Sound.{new_sound}
use Rattle.matching.proofs.state.Matching.new.Goals as goal

pub invariant_of-result : goal.invariant_of-result
invariant_of-result c =
    let rows = c.in_ok-rows.ensures in
    let cursor_is = same_from_all_zip _ _ _ c.in_ok-clone.ensures.cases.0 (λ x y e. e) in
    let place_is = c.in_ok-vec.ensures.items_if_clones_equal (λ y x. search rules) in
    let head_is : length c.in_ok-rows.rows.head.items ≡ c.args.row_count = omega (arith, rows.head, c.in_ok-rows.rows.head.ok) in
    let few_lefts : length c.args.rows.items < 2 ^ 32 = omega (arith, c.requires.few_lefts, c.args.rows.ok) in
    let sound = new_sound c.args.rows.items c.args.pairs.items c.in_ok-rows.rows.head.items c.in_ok-rows.rows.next.items c.args.row_count c.args.right_count
    rows.linked head_is c.requires.rows c.requires.pairs few_lefts in
    let owner_is = c.in_ok-vec-2.ensures.items_if_clones_equal (λ y x. search rules) in
    let seen_is = c.in_ok-vec-3.ensures.items_if_clones_equal (λ y x. x) in
    let scanned_is = c.in_ok-vec-4.ensures.items_if_clones_equal (λ y x. x) in
    let left_is : c.len-left_count.result ≡ length c.args.rows.items = omega (arith, c.len-left_count.ensures, c.args.rows.ok) in
    rw (rows.of, rows.pairs, cursor_is, place_is, owner_is, seen_is, scanned_is, left_is) sound
