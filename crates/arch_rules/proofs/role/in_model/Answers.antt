use Rattle.std.proofs.Common.{◌∙◌, ap, codes}
use Rattle.arch_rules.specs.Roles.{either}
use Rattle.arch_rules.specs.declared.role.Role.TheVariants as role
use Rattle.arch_rules.proofs.role.in_model.Goals as goal

pub returns : goal.returns
returns c = c.choice.ensures ∙ ap (λ r. either c.args.name.now (codes "input_ports") role.ModelPorts r) c.choice-others.ensures
