use Rattle.std.proofs.Common.{ap, ◌∙◌, sym, subst}
use Rattle.std.specs.FinMap.{from_entries}
use Rattle.prog_map.specs.Choices.{with_used, choices_at, IsProgOf}
use Rattle.prog_map.proofs.Maps.{member_added}
use Rattle.prog_map.proofs.Kept.{used_kept}
use Rattle.prog_map.proofs.prog.Prog.set_used.Goals as goal

pub returns-clause-ok : goal.returns-clause-ok
returns-clause-ok c =
    ap (λ m. choices_at (from_entries c.self.inside.modes.entries) (from_entries c.self.inside.picks.entries) m (from_entries c.self.inside.luts.entries))
    (member_added c.self.inside.leaves c.insert.new.self c.args.pb.0 c.in_ok-insert.ensures.updates.0)
    ∙ ap (λ v. with_used v c.args.pb.0) c.self.view_is

pub returns-clause-of : goal.returns-clause-of
returns-clause-of c g of there = subst (λ choices. IsProgOf g choices) (sym (returns-clause-ok c)) (used_kept g c.args.self.now c.args.pb.0 of there)
