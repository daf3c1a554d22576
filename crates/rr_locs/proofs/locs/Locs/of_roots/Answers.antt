use Rattle.std.proofs.Common.{◌≤◌, length, subst, sym}
use Rattle.std.specs.List.Sorted.{IsPermutation}
use Rattle.rr_locs.specs.Firsts.{AreStarts}
use Rattle.rr_locs.proofs.Listed.{few_locs}
use Rattle.rr_locs.proofs.Ordered.{starts_are_firsts}
use Rattle.rr_locs.proofs.Sorted.{sorted_locs}
use Rattle.rr_locs.proofs.locs.Locs.of_roots.Goals as goal

pub starts-requires : goal.starts-requires
starts-requires c =
    subst (λ l. length l ≤ 1048576) (sym c.as_slice.ensures.value)
    (few_locs c.args.roots.now c.in_ok-locs.locs.items c.sort_unstable.new.self.items _ _ 1048576 c.in_ok-locs.locs.ok.0 c.sort_unstable.new.self.ok.0
    c.sort_unstable.ensures.len c.in_ok-locs.ensures c.if-not-fit_limit.ensures)

pub invariant_of-result : goal.invariant_of-result
invariant_of-result c =
    let are = sorted_locs c.args.roots.now c.requires c.sort_unstable.new.self.items
    (subst (λ l. IsPermutation l c.sort_unstable.new.self.items) c.in_ok-locs.ensures c.sort_unstable.ensures.permutation) c.sort_unstable.ensures.sorted in (
      few_locs c.args.roots.now c.in_ok-locs.locs.items c.sort_unstable.new.self.items _ _ 1048576 c.in_ok-locs.locs.ok.0 c.sort_unstable.new.self.ok.0
          c.sort_unstable.ensures.len c.in_ok-locs.ensures c.if-not-fit_limit.ensures,
      starts_are_firsts c.args.roots.now c.sort_unstable.new.self.items are c.in_ok-firsts.firsts
          (subst (λ l. AreStarts l (length l) c.in_ok-firsts.firsts) c.as_slice.ensures.value c.in_ok-firsts.ensures),
    )

pub returns : goal.returns
returns c = (
  sorted_locs c.args.roots.now c.requires c.sort_unstable.new.self.items
      (subst (λ l. IsPermutation l c.sort_unstable.new.self.items) c.in_ok-locs.ensures c.sort_unstable.ensures.permutation) c.sort_unstable.ensures.sorted,
  few_locs c.args.roots.now c.in_ok-locs.locs.items c.sort_unstable.new.self.items _ _ 1048576 c.in_ok-locs.locs.ok.0 c.sort_unstable.new.self.ok.0
      c.sort_unstable.ensures.len c.in_ok-locs.ensures c.if-not-fit_limit.ensures,
  c.if-not-fit_limit.ensures,
)
