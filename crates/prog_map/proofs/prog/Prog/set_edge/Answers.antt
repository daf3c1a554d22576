use Rattle.std.proofs.Common.{ap, ◌∙◌, sym, subst}
use Rattle.std.specs.FinMap.{from_entries}
use Rattle.std.specs.FinSet.{from_list}
use Rattle.prog_map.specs.Choices.{with_pick, choices_at, IsProgOf}
use Rattle.prog_map.proofs.Maps.{set_at, sites_total, sites_apart}
use Rattle.prog_map.proofs.Kept.{pick_kept}
use Rattle.prog_map.proofs.prog.Prog.set_edge.Goals as goal

pub returns-clause-ok : goal.returns-clause-ok
returns-clause-ok c =
    ap (λ m. choices_at (from_entries c.self.inside.modes.entries) m (from_list c.self.inside.leaves.keys) (from_entries c.self.inside.luts.entries))
    (set_at sites_total sites_apart c.self.inside.picks c.insert.new.self (c.args.pin.0, c.args.mode) c.args.edge.0
    c.in_ok-insert.ensures.updates.0)
    ∙ ap (λ v. with_pick v c.args.pin.0 c.args.mode c.args.edge.0) c.self.view_is

pub returns-clause-of : goal.returns-clause-of
returns-clause-of c g of there = subst (λ choices. IsProgOf g choices) (sym (returns-clause-ok c)) (pick_kept g c.args.self.now c.args.pin.0 c.args.mode c.args.edge.0 of there)
