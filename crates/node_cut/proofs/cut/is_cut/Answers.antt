use Rattle.std.proofs.Common.{◌≡◌, ◌<◌, Some, length, slice_get, sym, ◌∙◌, subst}
use Rattle.vtr_base.specs.Lists.{Has}
use Rattle.pb_expand.specs.Graph.{pin_ix}
use Rattle.sparse_set.specs.Sets.{Held}
use Rattle.task_types.specs.Open.{IsActiveNeed}
use Rattle.task_reach.specs.Gains.{Gains}
use Rattle.node_cut.proofs.Barred.{cut_to, cut_from}
use Rattle.node_cut.proofs.cut.is_cut.Goals as goal

pub returns-clause-cut : goal.returns-clause-cut
returns-clause-cut c =
    let is : slice_get c.args.task.now.needs c.args.number ≡ Some c.in-Some.need = sym (c.copied.ensures ∙ c.get.ensures.value) ∙ c.in-Some.is in
    let of = c.requires.task.needs c.args.number c.in-Some.need is in
    let active : IsActiveNeed c.args.task.now c.args.trail.now.made c.args.number c.in-Some.need = record { is = is; active = c.is_active.ensures.0 c.if-not-is_active.false } in
    let gains = subst (λ (h : Held). Gains h.items c.put_pins.new.listed.items (λ pin. (pin < length c.args.graph.now.pins) × Has c.args.pins.now (pin_ix pin))) c.requires.listed c.put_pins.ensures.gains in (
      λ yes. cut_to c.args.graph.now c.args.net.now.atoms c.args.task.now c.args.trail.now.made c.args.number c.in-Some.need c.args.pins.now c.put_pins.new.listed.items c.law.ensures of active gains (c.bars-cut.ensures.bars.0 yes),
      λ cut. c.bars-cut.ensures.bars.1 (cut_from c.args.graph.now c.args.net.now.atoms c.args.task.now c.args.trail.now.made c.args.number c.in-Some.need c.args.pins.now c.put_pins.new.listed.items c.law.ensures of active gains cut),
    )
