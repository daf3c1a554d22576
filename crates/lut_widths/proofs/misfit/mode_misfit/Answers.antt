use Rattle.std.proofs.Common.{map, sym, ap, ◌∙◌, subst, ◌≡◌, ◌++◌}
use Rattle.arch_types.specs.Tree.{kids_of}
use Rattle.meta_said.specs.declared.types.LutFields.TheVariants.{One, Children}
use Rattle.lut_widths.specs.Fields.{IsLeast, Misfits, UsesOfMode}
use Rattle.lut_widths.specs.Sizes.{AreSizes, AtSome, InChild}
use Rattle.lut_widths.specs.Tables.{UsesOfLines}
use Rattle.lut_widths.proofs.Deciding.{least_alike}
use Rattle.lut_widths.proofs.Using.{one_least, one_mode_uses, children_mode_uses}
use Rattle.lut_widths.proofs.misfit.mode_misfit.Goals as goal

pub returns-in-One : goal.returns-in-One
returns-in-One c =
    let mode = c.args.mode.now in
    let f = c.in-One.field in
    subst (λ fields. IsLeast (Misfits (UsesOfMode mode fields)) c.one_misfit.result) (sym c.in-One.is)
    (one_least (AtSome InChild (kids_of mode)) (UsesOfMode mode (One f)) f (one_mode_uses mode f) c.kids_sizes.result c.one_misfit.result
    (subst (λ l. AreSizes (AtSome InChild l) c.kids_sizes.result) c.as_slice.ensures c.kids_sizes.ensures) c.one_misfit.ensures)

pub returns-in_ok-least-in-Children : goal.returns-in_ok-least-in-Children
returns-in_ok-least-in-Children c =
    let mode = c.args.mode.now in
    let same : map (λ k. k.now) c.as_slice-in-Children.result.now ≡ kids_of mode = ap (map (λ k. k.now)) c.as_slice-in-Children.ensures.value ∙ (c.in_ok-push_kids-in-Children.ensures ∙ ap (λ l. map (λ k. k.now) l ++ kids_of mode) c.new-kids.ensures.items) in
    subst (λ fields. IsLeast (Misfits (UsesOfMode mode fields)) c.in_ok-least-in-Children.least) (sym c.in-Children.is)
    (least_alike (Misfits (UsesOfLines (kids_of mode) c.in-Children.lines)) (Misfits (UsesOfMode mode (Children c.in-Children.lines))) (children_mode_uses mode c.in-Children.lines) c.in_ok-least-in-Children.least
    (subst (λ kids. IsLeast (Misfits (UsesOfLines kids c.in-Children.lines)) c.in_ok-least-in-Children.least) same
    (subst (λ lines. IsLeast (Misfits (UsesOfLines (map (λ k. k.now) c.as_slice-in-Children.result.now) lines)) c.in_ok-least-in-Children.least) c.as_slice-in-Children-2.ensures c.in_ok-least-in-Children.ensures)))
