use Rattle.std.proofs.Common.{◌<◌, length, arith}
use Rattle.matching.proofs.Steps.{room, extends_then, passed_then}
use Rattle.matching.proofs.search.search.Goals as goal

pub loop-at-smaller : goal.loop-at-smaller
loop-at-smaller c =
    let most = room _ _ _ _ _ _ c.loop-at.invariant.trail in
    let test = c.loop-at-test.true in
    omega (arith, most, test)

pub loop-at-preserved : goal.loop-at-preserved
loop-at-preserved c =
    let now = c.in_ok-out.ensures in
    let inside : c.loop-at.at < length c.loop-at.trail.lefts.items = omega (arith, c.loop-at-test.true) in
    record {
      cursors = now.cursors;
      trail = now.trail;
      reach = now.reach;
      first = extends_then _ _ _ c.loop-at.invariant.first now.first;
      scanned = now.scanned;
      covered = rw c.in_default.is at now.covered;
      passed = passed_then c.args.rows.now.of.items c.loop-at.trail.lefts.items c.visit.new.trail.lefts.items c.loop-at.scanned c.visit.new.scanned c.loop-at.at
          now.first inside c.loop-at.invariant.passed now.kept now.here;
      high = omega (arith, now.first.longer);
    }
