use Rattle.std.proofs.Common.{◌<◌, length, subst, arith}
use Rattle.vtr_base.specs.Lists.{Has}
use Rattle.pb_expand.specs.Graph.{pin_ix}
use Rattle.sparse_set.specs.Sets.{Held}
use Rattle.task_reach.specs.Gains.{Gains}
use Rattle.node_crowd.proofs.Apart.{crowd_to, crowd_blocked}
use Rattle.node_crowd.proofs.crowd.is_crowd.Goals as goal

pub returns-clause-crowd : goal.returns-clause-crowd
returns-clause-crowd c =
    let gains = subst (λ (h : Held). Gains h.items c.put_pins.new.listed.items (λ pin. (pin < length c.args.graph.now.pins) × Has c.args.pins.now (pin_ix pin))) c.requires.listed c.put_pins.ensures.gains in
    let fewer : length c.args.pins.now < length c.args.needs.now = omega (arith, c.if-pins-needs.false) in (
      λ yes. crowd_to c.args.graph.now c.args.net.now.atoms c.args.task.now c.args.trail.now.made c.args.needs.now c.args.pins.now c.put_pins.new.listed.items c.law.ensures c.requires.task gains fewer
          (c.are_apart-apart.ensures.apart.0 c.if-not-apart.false) (c.are_blocked-blocked.ensures.blocked.0 yes),
      λ crowd. c.are_blocked-blocked.ensures.blocked.1 (crowd_blocked c.args.graph.now c.args.net.now.atoms c.args.task.now c.args.trail.now.made c.args.needs.now c.args.pins.now c.put_pins.new.listed.items c.law.ensures c.requires.task gains crowd),
    )
