use Rattle.std.proofs.Common.{◌≡◌, ◌<◌, ◌-◌, ℕ, length, refl, arith}
use Rattle.std.specs.Prelude.{slice_index}
use Rattle.std.proofs.lemmas.List.{length-set}
use Rattle.std.proofs.lemmas.List.Elements.{All-get_or}
use Rattle.link_lists.proofs.Reading.{none_in_arrays, linked_more_in, after_upto}
use Rattle.link_lists.proofs.lists.link_all.Goals as goal

pub loop-i-init : goal.loop-i-init
loop-i-init c =
    none_in_arrays c.args.owner.now c.args.next.now c.args.firsts.now c.args.prev.now (λ k. k < length c.args.owner.now)
    c.requires.follow c.requires.lead (λ k h. h)
    (λ k h. All-get_or (λ j. j ≡ length c.args.owner.now) c.args.next.now k 0 h c.requires.none)
    (λ k h. All-get_or (λ j. j ≡ length c.args.owner.now) c.args.firsts.now k 0 h c.requires.none_first)
    (λ k h. All-get_or (λ j. j ≡ length c.args.owner.now) c.args.prev.now k 0 h c.requires.none_before)

pub bounds-prev-after : goal.bounds-prev-after
bounds-prev-after c =
    let i : ℕ = c.loop-i.i - 1 in
    let list : ℕ = slice_index c.args.owner.now (c.loop-i.i - 1) in
    let inside : slice_index c.args.owner.now (c.loop-i.i - 1) < length c.args.firsts.now =
    All-get_or (λ list. list < length c.args.firsts.now) c.args.owner.now (c.loop-i.i - 1) 0 (omega arith) c.requires.lists in
    let upto = after_upto c.args.owner.now c.loop-i.next c.loop-i.firsts c.loop-i.prev c.loop-i.i (c.loop-i.i - 1) list
    (slice_index c.loop-i.firsts list) (omega arith) c.loop-i.auto.i refl (omega (arith, inside, c.loop-i.auto.firsts)) refl c.loop-i.invariant in
    omega (arith, upto, length-set c.loop-i.prev (c.loop-i.i - 1) (length c.args.owner.now), c.loop-i.auto.prev, c.requires.lead)

pub loop-i-preserved : goal.loop-i-preserved
loop-i-preserved c =
    let list : ℕ = slice_index c.args.owner.now (c.loop-i.i - 1) in
    let inside : slice_index c.args.owner.now (c.loop-i.i - 1) < length c.args.firsts.now =
    All-get_or (λ list. list < length c.args.firsts.now) c.args.owner.now (c.loop-i.i - 1) 0 (omega arith) c.requires.lists in
    linked_more_in c.args.owner.now c.loop-i.next c.loop-i.firsts c.loop-i.prev c.loop-i.i (c.loop-i.i - 1) list
    (slice_index c.loop-i.firsts list) (omega arith) c.loop-i.auto.i refl (omega (arith, inside, c.loop-i.auto.firsts)) refl c.loop-i.invariant
