-- A move makes the cost less, an exchange where it was tried, and else nothing changed.
use Rattle.std.proofs.Common.{◌≡◌, ◌<◌, ◌+◌, ◌∙◌, None, ap, arith, get_or, length, set, subst, sym}
use Rattle.std.specs.List.{sum_by, swap}
use Rattle.anneal_placer.specs.declared.pull.Pull.{Pull}
use Rattle.anneal_placer.specs.Cost.{site_at}
use Rattle.anneal_placer.specs.Rects.{away}
use Rattle.anneal_placer.specs.Search.{IsPull}
use Rattle.anneal_placer.specs.Task.{FitsAt, cost, nets_of}
use Rattle.std.proofs.lemmas.List.{get_or_default}
use Rattle.anneal_placer.proofs.Boards.{exchanged_board, given_back, moved_board, site_within}
use Rattle.anneal_placer.proofs.Steps.{too_far}
use Rattle.anneal_placer.proofs.descent.improve.Goals as goal

pub returns-in_default-clause-descends : goal.returns-in_default-clause-descends
returns-in_default-clause-descends c = record {
  board = moved_board c.args.task.now c.args.board.now.places.items c.move_to.new.self.places.items c.args.board.now.occupants.items c.move_to.new.self.occupants.items c.args.block c.args.site
      c.requires.board (omega (arith, c.requires.block, c.requires.board.blocks)) (c.fits.ensures.0 c.if-not-fits.false) c.move_to.ensures.occupants c.move_to.ensures.places c.move_to.ensures.sites;
  less = λ _. rw c.move_to.ensures.places (omega (arith, c.requires.less, c.requires.gain));
  same_places = λ bad. absurd (cc bad);
  same_occupants = λ bad. absurd (cc bad);
}

pub fits-requires-2-clause-block : goal.fits-requires-2-clause-block
fits-requires-2-clause-block c =
    let holds = sym (get_or_default c.args.board.now.occupants.items c.args.site c.index.result.now None (omega (arith, c.requires.site, c.requires.board.sites))) ∙ sym c.index.ensures ∙ c.in-Some.is in
    let held = c.requires.board.owners.held c.args.site c.in-Some.other holds in
    omega (arith, held.0, c.requires.board.blocks)

pub returns-then-helps-clause-descends : goal.returns-then-helps-clause-descends
returns-then-helps-clause-descends c =
    let old = c.args.board.now.places.items in
    let block = c.args.block in
    let other = c.in-Some.other in
    let holds = sym (get_or_default c.args.board.now.occupants.items c.args.site c.index.result.now None (omega (arith, c.requires.site, c.requires.board.sites))) ∙ sym c.index.ensures ∙ c.in-Some.is in
    let held = c.requires.board.owners.held c.args.site other holds in
    let inside : block < length old = omega (arith, c.requires.block, c.requires.board.blocks) in
    let home : c.index-home.result.now ≡ get_or old block 0 = c.index-home.ensures ∙ get_or_default old block c.index-home.result.now 0 inside in
    let back = given_back old c.exchange_helps-helps.new.places c.args.board.now.places.len (c.exchange_helps-helps.ensures.kept ∙ c.deref_mut.ensures.value) (omega (arith, c.args.board.now.places.ok)) in
    let places_are : c.exchange.new.self.places.items ≡ swap old block other = c.exchange.ensures.places ∙ ap (λ p. swap p block other) back in
    record {
      board = exchanged_board c.args.task.now old c.exchange.new.self.places.items c.args.board.now.occupants.items c.exchange.new.self.occupants.items block other c.requires.board inside held.0
          (subst (FitsAt c.args.task.now block) (sym held.1) (c.fits.ensures.0 c.if-not-fits.false)) (subst (FitsAt c.args.task.now other) home (c.fits-2.ensures.0 c.if-not-fits-2.false))
          c.exchange.ensures.occupants places_are c.exchange.ensures.sites;
      less = λ _. rw places_are (rw c.deref_mut.ensures.value at (c.exchange_helps-helps.ensures.value.0 c.if-helps.true));
      same_places = λ bad. absurd (cc (bad, c.if-helps.true));
      same_occupants = λ bad. absurd (cc (bad, c.if-helps.true));
    }

pub returns-then-not-reaches-clause-stuck : goal.returns-then-not-reaches-clause-stuck
returns-then-not-reaches-clause-stuck c = λ _ pulls _ _.
    let task = c.args.task.now in
    let old = c.args.board.now.places.items in
    let block = c.args.block in
    let other = c.in-Some.other in
    let holds = sym (get_or_default c.args.board.now.occupants.items c.args.site c.index.result.now None (omega (arith, c.requires.site, c.requires.board.sites))) ∙ sym c.index.ensures ∙ c.in-Some.is in
    let held = c.requires.board.owners.held c.args.site other holds in
    let inside : block < length old = omega (arith, c.requires.block, c.requires.board.blocks) in
    let pull = c.index-pulls-other.result in
    let pulled = subst (λ (p : Pull). IsPull task.sites.items old (nets_of task) other p.rects.items p.away) (sym c.index-pulls-other.is)
    (pulls.at other pull (omega (arith, held.0, c.requires.board.blocks))) in
    let home : c.index-home.result.now ≡ get_or old block 0 = c.index-home.ensures ∙ get_or_default old block c.index-home.result.now 0 inside in
    let home_in = subst (λ h. h < length task.sites.items) (sym home) (site_within task block (get_or old block 0) (c.requires.board.fitting block inside)) in
    let site_is : site_at task.sites.items (get_or old block 0) ≡ c.index-2.result.now =
    ap (site_at task.sites.items) (sym home) ∙ sym (c.index-2.ensures ∙ get_or_default task.sites.items c.index-home.result.now c.index-2.result.now _ home_in) in (
      other,
      holds,
      λ _. too_far task old block other c.args.gain pull inside held.0 pulled
          (subst (λ s. cost task (set old block s) + c.args.gain ≡ cost task old) (sym held.1) c.requires.less)
          (λ near. absurd (cc (c.if-not-reaches.true, c.reaches.ensures.1 (subst (λ s. sum_by (away s) pull.rects.items < pull.away + c.args.gain) site_is near)))),
    )
