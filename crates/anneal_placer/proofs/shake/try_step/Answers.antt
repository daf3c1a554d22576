-- A step keeps a board.
use Rattle.std.proofs.Common.{◌≡◌, ◌<◌, ◌∙◌, ap, arith, get_or, length, set, subst, sym}
use Rattle.std.specs.List.{swap}
use Rattle.std.proofs.lemmas.List.{get_or_default}
use Rattle.anneal_placer.specs.Task.{FitsAt}
use Rattle.anneal_placer.proofs.Boards.{exchanged_board, given_back, holder, moved_board, site_within}
use Rattle.anneal_placer.proofs.shake.try_step.Goals as goal

pub returns-then-saturating_sub-most : goal.returns-then-saturating_sub-most
returns-then-saturating_sub-most c =
    let old = c.args.board.now.places.items in
    let inside : c.args.block < length old = omega (arith, c.requires.block, c.requires.board.blocks) in
    let back = given_back old c.move_trial-trial.new.places c.args.board.now.places.len (c.move_trial-trial.ensures.kept ∙ c.deref_mut.ensures.value) (omega (arith, c.args.board.now.places.ok)) in
    let places_are : c.move_to.new.self.places.items ≡ set old c.args.block c.args.site = c.move_to.ensures.places ∙ ap (λ p. set p c.args.block c.args.site) back in
    moved_board c.args.task.now old c.move_to.new.self.places.items c.args.board.now.occupants.items c.move_to.new.self.occupants.items c.args.block c.args.site
    c.requires.board inside c.requires.fit c.move_to.ensures.occupants places_are c.move_to.ensures.sites

pub fits-requires-clause-block : goal.fits-requires-clause-block
fits-requires-clause-block c =
    let held = holder c.args.task.now c.args.board.now.places.items c.args.board.now.occupants.items c.args.site c.in-Some.other c.index.result.now c.requires.board
    (site_within c.args.task.now c.args.block c.args.site c.requires.fit) c.index.ensures c.in-Some.is in
    omega (arith, held.0, c.requires.board.blocks)

pub returns-then-saturating_sub-most-2 : goal.returns-then-saturating_sub-most-2
returns-then-saturating_sub-most-2 c =
    let old = c.args.board.now.places.items in
    let block = c.args.block in
    let other = c.in-Some.other in
    let held = holder c.args.task.now old c.args.board.now.occupants.items c.args.site other c.index.result.now c.requires.board
    (site_within c.args.task.now block c.args.site c.requires.fit) c.index.ensures c.in-Some.is in
    let inside : block < length old = omega (arith, c.requires.block, c.requires.board.blocks) in
    let home : c.index-home.result.now ≡ get_or old block 0 = c.index-home.ensures ∙ get_or_default old block c.index-home.result.now 0 inside in
    let back = given_back old c.exchange_trial-trial.new.places c.args.board.now.places.len (c.exchange_trial-trial.ensures.kept ∙ c.deref_mut-2.ensures.value) (omega (arith, c.args.board.now.places.ok)) in
    let places_are : c.exchange.new.self.places.items ≡ swap old block other = c.exchange.ensures.places ∙ ap (λ p. swap p block other) back in
    exchanged_board c.args.task.now old c.exchange.new.self.places.items c.args.board.now.occupants.items c.exchange.new.self.occupants.items block other c.requires.board inside held.0
    (subst (FitsAt c.args.task.now block) (sym held.1) c.requires.fit) (subst (FitsAt c.args.task.now other) home (c.fits.ensures.0 c.if-not-fits.false))
    c.exchange.ensures.occupants places_are c.exchange.ensures.sites
