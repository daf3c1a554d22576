use Rattle.std.proofs.Common.{◌+◌, length, Some, sym, ap, ◌∙◌, subst}
use Rattle.std.proofs.lemmas.Result.{on_ok_weaker}
use Rattle.prog_map.specs.declared.choice.LutChoice.TheVariants.{Wire}
use Rattle.prog_map.specs.Choices.{with_lut}
use Rattle.search_rules.specs.Reading.{wire_of}
use Rattle.search_real.specs.Said.{Says}
use Rattle.search_real.proofs.Saying.{wire_put}
use Rattle.search_real.proofs.uses.put_wire.Goals as goal

pub returns-in-Some-Wire : goal.returns-in-Some-Wire
returns-in-Some-Wire c =
    let old = c.args.prog.now in
    let leaf = c.args.leaf.0 in
    let all = length c.args.graph.now.instances in
    let choice = Wire c.in-Some-Wire.input in
    let is_wire = ap wire_of (sym c.in-Some-Wire.ensures ∙ ap (λ o. Some o) c.in-Some-Wire.field-0-is) in
    let said = wire_put c.args.graph.now c.args.trail.now.made old (with_lut old leaf choice) leaf all all 0 choice c.requires.before is_wire (c.setting_laws.ensures.lut old leaf choice) in
    on_ok_weaker c.set_lut.result (λ is. subst (λ x. Says c.args.graph.now c.args.trail.now.made x all all (leaf + 1) 0) (sym is) said) c.set_lut.ensures.ok
