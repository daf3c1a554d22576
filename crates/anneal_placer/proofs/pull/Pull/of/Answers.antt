-- One more net: its other blocks' rectangle, or none.
use Rattle.std.proofs.Common.{◌≡◌, ◌∙◌, ℕ, [], ◌∷◌, ◌++◌, ap, get_or, length, set, sym, arith}
use Rattle.anneal_placer.specs.Cost.{net_cost, site_at}
use Rattle.anneal_placer.specs.Rects.{IsRectOf, away, without}
use Rattle.anneal_placer.specs.Task.{nets_of}
use Rattle.anneal_placer.proofs.Costs.{lone, reached}
use Rattle.anneal_placer.proofs.Nets.{named_at, net_here, pulls_more, pulls_same}
use Rattle.anneal_placer.proofs.pull.Pull.of.Goals as goal
use Rattle.anneal_placer.proofs.pull.Pull.of.Goals.{in-Some+in_ok-push, in_default}

pub rect_without-requires-clause-blocks : goal.rect_without-requires-clause-blocks
rect_without-requires-clause-blocks c =
    let here = net_here c.args.task.now.nets.items c.args.nets.now.of.items (length c.args.task.now.blocks.items) c.args.block c.loop-net.net-index c.index.result.now c.deref-net-items.result.now c.index-net.result.now
    c.requires.nets (omega (arith, c.requires.block, c.requires.blocks)) c.index.ensures c.deref-net-items.ensures.value c.loop-net-test.true c.index-net.ensures in
    rw (c.deref-in-loop-net.ensures.value, c.requires.blocks) (named_at (nets_of c.args.task.now) (length c.args.task.now.blocks.items) _ c.index-net.result.now.items c.requires.named here.inside here.net_is)

pub loop-net-preserved : goal.loop-net-preserved
loop-net-preserved c = λ site.
    let sites = c.args.task.now.sites.items in
    let places = c.args.places.now in
    let block = c.args.block in
    let nets = nets_of c.args.task.now in
    let list = c.deref-net-items.result.now in
    let k = c.loop-net.net-index in
    let here = net_here c.args.task.now.nets.items c.args.nets.now.of.items (length c.args.task.now.blocks.items) block k c.index.result.now list c.index-net.result.now
    c.requires.nets (omega (arith, c.requires.block, c.requires.blocks)) c.index.ensures c.deref-net-items.ensures.value c.loop-net-test.true c.index-net.ensures in
    let so_far = rw here.row_is at (c.loop-net.invariant site) in
    let f = λ (n : ℕ). net_cost sites (set places block site) (get_or nets n []) in
    let base = λ (n : ℕ). net_cost sites places (without block (get_or nets n [])) in
    let net_is : get_or nets (get_or list k 0) [] ≡ c.deref-in-loop-net.result.now = here.net_is ∙ sym c.deref-in-loop-net.ensures.value in
    rw here.row_is
    (elim c.match-rect_without.branch [
      | in-Some+in_ok-push w ↦
          (let rect = w.in-Some.rect in
          let is_rect : IsRectOf sites places (without block (get_or nets (get_or list k 0) [])) rect = rw (net_is, ← c.deref.ensures.value) w.in-Some.ensures in
          pulls_more f base (away (site_at sites site)) list k c.loop-net.rects.items c.match-rect_without.rects.items rect c.loop-net-test.true
          (reached sites places block site (get_or nets (get_or list k 0) []) rect c.requires.block here.holds_block is_rect)
          (let e : c.match-rect_without.rects.items ≡ c.loop-net.rects.items ++ rect ∷ [] = ap (λ v. v.items) w.rects-is ∙ w.in_ok-push.ensures.items in e) so_far)
      | in_default w ↦
          (let none : without block (get_or nets (get_or list k 0) []) ≡ [] = ap (without block) net_is ∙ w.in_default.ensures in
          rw (ap (λ v. v.items) w.rects-is)
          (pulls_same f base (away (site_at sites site)) list k c.loop-net.rects.items c.loop-net-test.true (lone sites places block site (get_or nets (get_or list k 0) []) c.requires.block none) so_far))
    ])
