use Rattle.std.proofs.Common.{ap, sym, ◌∙◌}
use Rattle.std.specs.Cmp.{nat_cmp_total}
use Rattle.prog_map.specs.Choices.{lut_of}
use Rattle.prog_map.proofs.Maps.{looked_up}
use Rattle.prog_map.proofs.prog.Prog.lut.Goals as goal

pub returns : goal.returns
returns c =
    c.get.ensures.value ∙ sym (looked_up nat_cmp_total c.self.inside.luts c.args.pb.0)
    ∙ ap (λ v. lut_of v c.args.pb.0) c.self.view_is
