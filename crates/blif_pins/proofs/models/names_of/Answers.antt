use Rattle.std.proofs.Common.{ap, length, arith}
use Rattle.std.proofs.lemmas.List.{length-take, length-map}
use Rattle.arch_types.specs.declared.arch.CellModel.{CellModel}
use Rattle.arch_types.specs.Models.{model_names}
use Rattle.blif_pins.proofs.Naming.{name_at, fresh_name, next_name}
use Rattle.blif_pins.proofs.models.names_of.Goals as goal

pub add-requires-clause-few : goal.add-requires-clause-few
add-requires-clause-few c =
    omega (arith, ap length c.loop-model.invariant, length-take c.loop-model.model-index (model_names c.args.models.now), c.requires.few, c.loop-model-test.true)

pub add-requires-clause-fresh : goal.add-requires-clause-fresh
add-requires-clause-fresh c =
    fresh_name (model_names c.args.models.now) c.loop-model.names c.loop-model.model-index c.as_bytes.result.now c.requires.different
    (name_at (λ (m : CellModel). m.name) c.args.models.now c.loop-model.model-index c.model-item.result c.as_bytes.result.now c.loop-model-test.true c.model-item.is c.as_bytes.ensures)
    c.loop-model.invariant

pub loop-model-preserved : goal.loop-model-preserved
loop-model-preserved c =
    next_name (model_names c.args.models.now) c.loop-model.names c.add.new.self c.loop-model.model-index c.as_bytes.result.now
    (name_at (λ (m : CellModel). m.name) c.args.models.now c.loop-model.model-index c.model-item.result c.as_bytes.result.now c.loop-model-test.true c.model-item.is c.as_bytes.ensures)
    c.loop-model.invariant c.in_ok-add.ensures.ok
