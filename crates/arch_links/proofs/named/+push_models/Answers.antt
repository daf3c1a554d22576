use Rattle.std.proofs.Common.{arith}
use Rattle.std.proofs.lemmas.Grind.{common_steps}
use Rattle.arch_links.proofs.Rows.{models_is}
use Rattle.arch_links.proofs.named.+push_models.Goals as goal

pub returns-after-loop-kid : goal.returns-after-loop-kid
returns-after-loop-kid t c = grind (arith, common_steps, models_is c.args.elem.now)

pub returns-else-has_tag-2 : goal.returns-else-has_tag-2
returns-else-has_tag-2 t c = grind (arith, common_steps, models_is c.args.elem.now)
