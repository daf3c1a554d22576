use Rattle.std.proofs.Common.{◌∙◌, ap, codes}
use Rattle.arch_rules.specs.Roles.{either}
use Rattle.arch_rules.specs.declared.role.Role.TheVariants as role
use Rattle.arch_rules.proofs.role.in_sub_tile.Goals as goal

pub returns : goal.returns
returns c = c.choice.ensures ∙ ap (λ r. either c.args.name.now (codes "equivalent_sites") role.Sites r) c.port_or-others.ensures
