use Rattle.std.proofs.Common.{◌≡◌, ◌∙◌, IfOk, ap, subst, arith}
use Rattle.blif_models.specs.Files.{FileSays}
use Rattle.blif_files.proofs.Keeping.{keeps}
use Rattle.blif_files.proofs.file.read_parts.Goals as goal

pub returns-clause-keeps : goal.returns-clause-keeps
returns-clause-keeps c =
    let seen : c.in_ok-models.models ≡ c.args.arch.now.models = c.in_ok-models.ensures ∙ (c.as_slice.ensures ∙ ap (λ a. a.models) c.arch.view_is) in
    keeps c.model_law.ensures c.args.arch.now.models c.args.bytes.now c.read_model.result (omega arith) (subst (λ ms. IfOk c.read_model.result (FileSays ms c.args.bytes.now)) seen c.read_model.ensures.model)
