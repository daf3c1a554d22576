use Rattle.std.proofs.Common.{◌≡◌, ◌-◌, ℕ, List, arith, sym, subst, ◌∙◌}
use Rattle.std.specs.Prelude.{◌↔◌}
use Rattle.std.specs.List.Sorted.{IsStrictlyIncreasing}
use Rattle.vtr_base.specs.Lists.{Has}
use Rattle.prog_map.specs.Levels.{mode_sites, sites_under}
use Rattle.prog_map.proofs.BusyModes.{busy_whole}
use Rattle.prog_map.proofs.OrderLemmas.{kid_inside, firsts_below}
use Rattle.prog_map.proofs.Pushing.{under_whole, flat_done}
use Rattle.prog_map.proofs.sites.+under.Goals as goal

pub push_mode-push_ends-requires : goal.push_mode-push_ends-requires
push_mode-push_ends-requires t c =
    firsts_below c.args.graph.now c.args.pb.0 c.args.mode c.of.result.now (c.of.ensures ∙ c.requires.order.firsts c.args.pb.0 c.args.mode)

pub push_mode-push_under-requires : goal.push_mode-push_under-requires
push_mode-push_under-requires t c =
    let d = c.decreases in (
      omega (arith, d),
      (
        kid_inside c.args.graph.now c.args.pb.0 c.args.mode c.of-kid-items.result.now c.loop-kid.kid-index 0
            (c.of-kid-items.ensures ∙ c.requires.order.kids c.args.pb.0 c.args.mode) c.loop-kid-test.true,
        c.requires.order,
      ),
    )

pub push_under-returns : goal.push_under-returns
push_under-returns t c =
    let modes = c.deref-mode-items.result.now in
    let are : modes ≡ c.in_ok-modes.modes.items = c.deref-mode-items.ensures.value in
    under_whole c.args.graph.now c.args.levels c.args.pb.0 modes c.args.sites.now c.push_own.new.sites c.loop-mode.sites
    c.if-levels-eq0.false c.in_ok-push_own.ensures
    (λ under. busy_whole c.args.graph.now c.args.order.now.busy under c.args.pb.0 c.group.result.now modes c.law.ensures c.requires.order.parents c.requires.order.busy c.group.ensures
    (subst (λ (l : List ℕ). IsStrictlyIncreasing l) (sym are) c.in_ok-modes.ensures.rises)
    (λ m. subst (λ (l : List ℕ). Has l m ↔ Has c.group.result.now m) (sym are) (c.in_ok-modes.ensures.each m)))
    (flat_done (λ mode. mode_sites c.args.graph.now (λ kid. sites_under c.args.graph.now (c.args.levels - 1) kid) c.args.pb.0 mode) modes c.loop-mode.mode-index _ _
    c.loop-mode.invariant c.loop-mode-test.false)
