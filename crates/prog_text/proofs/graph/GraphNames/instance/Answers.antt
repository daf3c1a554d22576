use Rattle.std.proofs.Common.{◌++◌, sym, ap, ◌∙◌}
use Rattle.arch_types.specs.declared.block.PbType.{PbType}
use Rattle.prog_text.proofs.Descends.{out_of, root_below, root_looked_up}
use Rattle.prog_text.proofs.graph.GraphNames.instance.Goals as goal

pub returns-in_err-steps : goal.returns-in_err-steps
returns-in_err-steps c =
    out_of _ _ c.from_residual.result c.from_residual.ensures
    (λ n names. let b = root_below c.args.graph.now c.args.text.now n c.law.ensures names in
    c.in_err-steps.ensures b.0 (b.1 ∙ ap (λ x. x ++ b.0) (sym (c.as_bytes.ensures ∙ ap (λ (r : PbType). r.name) c.root.ensures))))

pub returns : goal.returns
returns c =
    root_looked_up c.args.graph.now c.args.text.now c.in_ok-steps.steps.now c.law.ensures (c.in_ok-steps.ensures ∙ ap (λ x. x ++ c.in_ok-steps.steps.now) (c.as_bytes.ensures ∙ ap (λ (r : PbType). r.name) c.root.ensures)) c.below.result c.below.ensures
