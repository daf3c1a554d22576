use Rattle.std.proofs.Common.{ap, ◌∙◌, sym, subst}
use Rattle.std.specs.Cmp.{nat_cmp_total}
use Rattle.std.specs.FinMap.{nat_cmp-IsAntisymmetric, from_entries}
use Rattle.std.specs.FinSet.{from_list}
use Rattle.prog_map.specs.Choices.{with_lut, choices_at, IsProgOf}
use Rattle.prog_map.proofs.Maps.{set_at}
use Rattle.prog_map.proofs.Kept.{lut_kept}
use Rattle.prog_map.proofs.prog.Prog.set_lut.Goals as goal

pub returns-clause-ok : goal.returns-clause-ok
returns-clause-ok c =
    ap (λ m. choices_at (from_entries c.self.inside.modes.entries) (from_entries c.self.inside.picks.entries) (from_list c.self.inside.leaves.keys) m)
    (set_at nat_cmp_total nat_cmp-IsAntisymmetric c.self.inside.luts c.insert.new.self c.args.pb.0 c.args.choice
    c.in_ok-insert.ensures.updates.0)
    ∙ ap (λ v. with_lut v c.args.pb.0 c.args.choice) c.self.view_is

pub returns-clause-of : goal.returns-clause-of
returns-clause-of c g of there = subst (λ choices. IsProgOf g choices) (sym (returns-clause-ok c)) (lut_kept g c.args.self.now c.args.pb.0 c.args.choice of there)
