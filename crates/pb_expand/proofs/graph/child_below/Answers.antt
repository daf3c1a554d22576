use Rattle.std.proofs.Common.{◌≡◌, sym, ◌∙◌}
use Rattle.arch_types.specs.Tree.{modes_of}
use Rattle.pb_expand.specs.Graph.{hop_of}
use Rattle.pb_expand.proofs.Blocks.{modes_are, mode_inside, kid_inside, kid_read}
use Rattle.pb_expand.proofs.graph.child_below.Goals as goal

pub bounds-as_slice-step : goal.bounds-as_slice-step
bounds-as_slice-step c =
    let modes : modes_of c.args.block.now.kind ≡ c.as_slice.result.now = modes_are c.args.block.now.kind c.in-Modes.modes c.in-Modes.is ∙ sym c.as_slice.ensures in
    mode_inside c.args.block.now (hop_of c.args.step) c.as_slice.result.now modes c.requires

pub bounds-as_slice-step-in-Modes : goal.bounds-as_slice-step-in-Modes
bounds-as_slice-step-in-Modes c =
    let modes : modes_of c.args.block.now.kind ≡ c.as_slice.result.now = modes_are c.args.block.now.kind c.in-Modes.modes c.in-Modes.is ∙ sym c.as_slice.ensures in
    kid_inside c.args.block.now (hop_of c.args.step) c.as_slice.result.now c.index-as_slice-step.result c.as_slice-in-Modes.result.now
    modes c.requires c.index-as_slice-step.is (sym c.as_slice-in-Modes.ensures)

pub returns-in-Modes : goal.returns-in-Modes
returns-in-Modes c =
    let modes : modes_of c.args.block.now.kind ≡ c.as_slice.result.now = modes_are c.args.block.now.kind c.in-Modes.modes c.in-Modes.is ∙ sym c.as_slice.ensures in
    kid_read c.args.block.now (hop_of c.args.step) c.as_slice.result.now c.index-as_slice-step.result c.as_slice-in-Modes.result.now
    c.index-as_slice-step-in-Modes.result modes c.requires c.index-as_slice-step.is (sym c.as_slice-in-Modes.ensures) c.index-as_slice-step-in-Modes.is
