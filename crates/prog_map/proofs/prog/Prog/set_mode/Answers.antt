use Rattle.std.proofs.Common.{ap, ◌∙◌, sym, subst}
use Rattle.std.specs.Cmp.{nat_cmp_total}
use Rattle.std.specs.FinMap.{nat_cmp-IsAntisymmetric, from_entries}
use Rattle.std.specs.FinSet.{from_list}
use Rattle.prog_map.specs.Choices.{with_mode, choices_at, IsProgOf}
use Rattle.prog_map.proofs.Maps.{set_at}
use Rattle.prog_map.proofs.Kept.{mode_kept}
use Rattle.prog_map.proofs.prog.Prog.set_mode.Goals as goal

pub returns-clause-ok : goal.returns-clause-ok
returns-clause-ok c =
    ap (λ m. choices_at m (from_entries c.self.inside.picks.entries) (from_list c.self.inside.leaves.keys) (from_entries c.self.inside.luts.entries))
    (set_at nat_cmp_total nat_cmp-IsAntisymmetric c.self.inside.modes c.insert.new.self c.args.pb.0 c.args.mode
    c.in_ok-insert.ensures.updates.0)
    ∙ ap (λ v. with_mode v c.args.pb.0 c.args.mode) c.self.view_is

pub returns-clause-of : goal.returns-clause-of
returns-clause-of c g of there = subst (λ choices. IsProgOf g choices) (sym (returns-clause-ok c)) (mode_kept g c.args.self.now c.args.pb.0 c.args.mode of there)
