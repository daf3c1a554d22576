use Rattle.std.proofs.Common.{◌∙◌, ap, sym}
use Rattle.arch_rules.specs.Roles.{row}
use Rattle.arch_rules.proofs.role.Role.of_plain_child.Goals as goal

pub returns-in-Layouts : goal.returns-in-Layouts
returns-in-Layouts c = c.choice-in-Layouts.ensures ∙ sym (ap (λ r. row r c.args.name.now) c.in-Layouts.is)
