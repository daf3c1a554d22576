use Rattle.std.proofs.Common.{ap, sym, ◌∙◌}
use Rattle.std.specs.Cmp.{nat_cmp_total}
use Rattle.std.specs.FinSet.{contains-from_list}
use Rattle.prog_map.specs.Choices.{is_used}
use Rattle.prog_map.proofs.prog.Prog.used.Goals as goal

pub returns : goal.returns
returns c =
    c.contains.ensures ∙ sym (contains-from_list nat_cmp_total c.self.inside.leaves.keys c.args.pb.0)
    ∙ ap (λ v. is_used v c.args.pb.0) c.self.view_is
