use Rattle.std.proofs.Common.{map, sym, ap, subst}
use Rattle.meta_said.specs.declared.types.LutFields.TheVariants.{One, Children}
use Rattle.lut_widths.specs.Held.{HoldsLut}
use Rattle.lut_widths.specs.Fields.{IsLeast, Misfits, UsesOfPbType}
use Rattle.lut_widths.specs.Tables.{AreOpenKids, UsesOfLines}
use Rattle.lut_widths.proofs.Deciding.{least_alike}
use Rattle.lut_widths.proofs.Using.{one_least, one_uses, children_uses, leaf_default}
use Rattle.lut_widths.proofs.misfit.pb_type_misfit.Goals as goal

pub returns-in-One : goal.returns-in-One
returns-in-One c =
    let block = c.args.block.now in
    let f = c.in-One.field in
    subst (λ fields. IsLeast (Misfits (UsesOfPbType block fields)) c.one_misfit.result) (sym c.in-One.is)
    (one_least (HoldsLut block) (UsesOfPbType block (One f)) f (one_uses block f) c.held_sizes.result c.one_misfit.result c.held_sizes.ensures c.one_misfit.ensures)

pub returns-in_ok-least-in-Modes : goal.returns-in_ok-least-in-Modes
returns-in_ok-least-in-Modes c =
    let block = c.args.block.now in
    let kids = map (λ k. k.now) c.as_slice-in-Modes.result.now in
    let listed = ap (map (λ k. k.now)) (sym c.as_slice-in-Modes.ensures.value) in
    let are : AreOpenKids c.in-Modes.modes kids = subst (AreOpenKids c.in-Modes.modes) listed (subst (λ modes. AreOpenKids modes (map (λ k. k.now) c.in_ok-kids-in-Modes.kids.items)) c.as_slice.ensures c.in_ok-kids-in-Modes.ensures) in
    subst (λ fields. IsLeast (Misfits (UsesOfPbType block fields)) c.in_ok-least-in-Modes.least) (sym c.in-Children.is)
    (least_alike (Misfits (UsesOfLines kids c.in-Children.lines)) (Misfits (UsesOfPbType block (Children c.in-Children.lines))) (children_uses block c.in-Modes.modes kids c.in-Children.lines c.in-Modes.is are)
    c.in_ok-least-in-Modes.least (subst (λ lines. IsLeast (Misfits (UsesOfLines kids lines)) c.in_ok-least-in-Modes.least) c.as_slice-in-Modes-2.ensures c.in_ok-least-in-Modes.ensures))

pub returns-in-InPad : goal.returns-in-InPad
returns-in-InPad c = leaf_default c.args.block.now c.args.fields.now c.in-Children.lines c.in-Children.is c.in-InPad.is

pub returns-in-InPad-2 : goal.returns-in-InPad-2
returns-in-InPad-2 c = leaf_default c.args.block.now c.args.fields.now c.in-Children.lines c.in-Children.is c.in-InPad.is

pub returns-in-InPad-3 : goal.returns-in-InPad-3
returns-in-InPad-3 c = leaf_default c.args.block.now c.args.fields.now c.in-Children.lines c.in-Children.is c.in-InPad.is

pub returns-in-InPad-4 : goal.returns-in-InPad-4
returns-in-InPad-4 c = leaf_default c.args.block.now c.args.fields.now c.in-Children.lines c.in-Children.is c.in-InPad.is

pub returns-in-InPad-5 : goal.returns-in-InPad-5
returns-in-InPad-5 c = leaf_default c.args.block.now c.args.fields.now c.in-Children.lines c.in-Children.is c.in-InPad.is
