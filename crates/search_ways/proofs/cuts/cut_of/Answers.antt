use Rattle.std.proofs.Common.{◌≡◌, ◌∙◌, ap, sym, subst, ℕ, refl, Option, None, Some, List, length, map, arith}
use Rattle.std.specs.Prelude.{IfSome, IfNone}
use Rattle.std.specs.Option.{is_some}
use Rattle.pb_expand.specs.declared.number.PinIx.{PinIx}
use Rattle.pb_expand.specs.Graph.{pin_ix}
use Rattle.sparse_set.specs.Sets.{Held}
use Rattle.task_types.specs.declared.tree.TreeNode.TheVariants.{Cut}
use Rattle.search_rules.specs.Closing.{Closes, HasWay}
use Rattle.search_ways.specs.Traces.{IsStart, AreShut}
use Rattle.search_ways.proofs.Reaching.{has_way, cut_closes}
use Rattle.search_ways.proofs.cuts.cut_of.Goals as goal

pub returns-then-is_some-clause-way : goal.returns-then-is_some-clause-way
returns-then-is_some-clause-way c = by c.in_ok-reach.field-0 refl c.in_ok-reach.ensures.found
  where
    by : (o : Option ℕ) → c.in_ok-reach.field-0 ≡ o → IfSome o (IsStart c.args.graph.now c.args.net.now.atoms c.args.task.now c.args.trail.now.made c.args.need c.reach.new.reached.items) →
        HasWay c.args.graph.now c.args.net.now.atoms c.args.task.now c.args.trail.now.made c.args.need
    by None is found = let bad : ⊥ = cc (sym c.if-is_some.true ∙ c.is_some.ensures ∙ ap is_some is) in absurd bad
    by (Some place) is found = has_way c.args.graph.now c.args.net.now.atoms c.args.task.now c.args.trail.now.made c.args.need c.reach.new.reached.items c.reach.new.from.items c.in_ok-reach.ensures.traced place found

pub returns-clause-closes : goal.returns-clause-closes
returns-clause-closes c =
    let room : c.reach.new.reached.room ≡ length c.args.graph.now.pins = c.in_ok-reach.ensures.room ∙ ap (λ (h : Held). h.room) c.requires.reached in
    let shut : AreShut c.args.graph.now c.args.net.now.atoms c.args.task.now c.args.trail.now.made c.args.need c.reach.new.reached.items = shut_of c.in_ok-reach.field-0 refl c.in_ok-reach.ensures.shut in
    let closes = cut_closes c.args.graph.now c.args.net.now.atoms c.args.task.now c.args.trail.now.made c.args.need c.reach.new.reached.items c.args.number c.requires.active shut
    (λ p has. (let less = c.law.ensures.inside p has in omega (arith, less, room))) in
    let pins : c.in_ok-pins.pins ≡ map pin_ix c.reach.new.reached.items = c.in_ok-pins.ensures ∙ ap (map pin_ix) c.as_slice.ensures in
    subst (λ (list : List PinIx). Closes c.args.graph.now c.args.net.now.atoms c.args.task.now c.args.trail.now.made (Cut c.args.number list)) (sym pins) closes
  where
    shut_of : (o : Option ℕ) → c.in_ok-reach.field-0 ≡ o → IfNone o (AreShut c.args.graph.now c.args.net.now.atoms c.args.task.now c.args.trail.now.made c.args.need c.reach.new.reached.items) →
        AreShut c.args.graph.now c.args.net.now.atoms c.args.task.now c.args.trail.now.made c.args.need c.reach.new.reached.items
    shut_of None is shut = shut
    shut_of (Some place) is shut = let bad : ⊥ = cc (sym c.if-is_some.false ∙ c.is_some.ensures ∙ ap is_some is) in absurd bad
