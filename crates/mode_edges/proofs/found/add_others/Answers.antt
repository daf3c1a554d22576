use Rattle.std.proofs.Common.{subst, sym}
use Rattle.mode_edges.specs.Pairs.{edges_in}
use Rattle.mode_edges.specs.Walks.{pins_left}
use Rattle.mode_edges.proofs.Sources.{IsSourcing, sources_start, source_adds, source_again, source_stops, was_there}
use Rattle.mode_edges.proofs.found.add_others.Goals as goal
use Rattle.mode_edges.proofs.found.add_others.Goals.{else-branch-via-then-branch+in_ok-add_row+else-not-branch, else-branch-via-else-branch}

pub loop-src-init : goal.loop-src-init
loop-src-init c =
    sources_start c.args.most c.args.inter (edges_in c.args.found.now) (pins_left c.args.ins) c.args.ends.now c.new-seen.result.keys c.insert.new.self.keys
    c.args.first c.new-seen.ensures.empty c.in_ok-insert.ensures.keys c.requires

pub returns-then-not-branch : goal.returns-then-not-branch
returns-then-not-branch c =
    source_stops c.args.most c.args.inter (edges_in c.args.found.now) (edges_in c.loop-src.found) (pins_left c.args.ins) (pins_left c.loop-src.sources)
    (pins_left c.next_pin.new.self) c.args.ends.now c.loop-src.seen.keys c.in-Some.src c.in-Some.ensures c.loop-src.invariant
    (rw c.if-not-branch.true at c.in_ok-add_row.ensures)

pub loop-src-preserved : goal.loop-src-preserved
loop-src-preserved c =
    elim c.else-branch.branch [
      | else-branch-via-then-branch+in_ok-add_row+else-not-branch w ↦
          subst (λ e. IsSourcing c.args.most c.args.inter (edges_in c.args.found.now) (edges_in e) (pins_left c.args.ins) (pins_left c.next_pin.new.self) c.args.ends.now c.insert-in-Some.new.self.keys)
          (sym w.found-is)
          (source_adds c.args.most c.args.inter (edges_in c.args.found.now) (edges_in c.loop-src.found) (edges_in w.add_row.new.found) (pins_left c.args.ins)
          (pins_left c.loop-src.sources) (pins_left c.next_pin.new.self) c.args.ends.now c.loop-src.seen.keys c.insert-in-Some.new.self.keys c.in-Some.src
          c.in-Some.ensures c.in_ok-insert-2.ensures.keys c.loop-src.invariant (rw w.if-not-branch.false at w.in_ok-add_row.ensures))
      | else-branch-via-else-branch w ↦
          subst (λ e. IsSourcing c.args.most c.args.inter (edges_in c.args.found.now) (edges_in e) (pins_left c.args.ins) (pins_left c.next_pin.new.self) c.args.ends.now c.insert-in-Some.new.self.keys)
          (sym w.found-is)
          (source_again c.args.most c.args.inter (edges_in c.args.found.now) (edges_in c.loop-src.found) (pins_left c.args.ins)
          (pins_left c.loop-src.sources) (pins_left c.next_pin.new.self) c.args.ends.now c.loop-src.seen.keys c.insert-in-Some.new.self.keys c.in-Some.src
          c.in-Some.ensures c.in_ok-insert-2.ensures.keys
          (was_there c.loop-src.seen.keys c.in-Some.src c.in_ok-insert-2.field-0 c.in_ok-insert-2.ensures.added w.if-branch.false) c.loop-src.invariant)
    ]
