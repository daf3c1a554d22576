use Rattle.std.proofs.Common.{◌≡◌, IsSome, sym, ◌∙◌, subst}
use Rattle.arch_types.specs.Tree.{modes_of}
use Rattle.pb_expand.proofs.Blocks.{modes_are, mode_is, some_inside, named}
use Rattle.pb_expand.proofs.graph.PbGraph.mode_name.Goals as goal

pub bounds-as_slice-mode : goal.bounds-as_slice-mode
bounds-as_slice-mode c =
    let modes : modes_of c.block_of.result.now.kind ≡ c.as_slice.result.now = modes_are c.block_of.result.now.kind c.in-Modes.modes c.in-Modes.is ∙ sym c.as_slice.ensures in
    some_inside c.as_slice.result.now c.args.mode
    (subst (λ o. IsSome o) (mode_is c.args.self.now c.args.pb.0 c.args.mode c.block_of.result.now c.as_slice.result.now c.block_of.ensures.is modes) c.requires.mode)

pub returns-in-Modes : goal.returns-in-Modes
returns-in-Modes c =
    let modes : modes_of c.block_of.result.now.kind ≡ c.as_slice.result.now = modes_are c.block_of.result.now.kind c.in-Modes.modes c.in-Modes.is ∙ sym c.as_slice.ensures in
    named c.args.self.now c.args.pb.0 c.args.mode c.block_of.result.now c.as_slice.result.now c.index-as_slice-mode.result c.as_str.result.now
    c.block_of.ensures.is modes c.requires.mode c.index-as_slice-mode.is c.as_str.ensures
