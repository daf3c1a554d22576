use Rattle.std.proofs.Common.{sym, subst}
use Rattle.vtr_base.specs.Lists.{Has}
use Rattle.rr_nodes.proofs.Kept.{ids_kept, lost_id, found_id}
use Rattle.rr_nodes.proofs.gathered.Gathered.find.Goals as goal

pub returns-in_err-found : goal.returns-in_err-found
returns-in_err-found c =
    rw c.from_residual.ensures
    (λ has. lost_id c.args.self.now.places.entries c.args.id (sym c.in_err-found.ensures.value)
    (subst (λ l. Has l c.args.id) (ids_kept c.args.self.now.carried.items c.args.self.now.places.entries c.requires.same) has))

pub returns : goal.returns
returns c =
    found_id c.args.self.now.carried.items c.args.self.now.places.entries c.requires.same c.args.id c.in_ok-found.found.now
    (sym c.in_ok-found.ensures.value)
