use Rattle.std.proofs.Common.{map, refl}
use Rattle.list_laws.proofs.Members.{has_at}
use Rattle.names.proofs.TextKeys.{name_added}
use Rattle.names.proofs.lent.LentNames.add.Goals as goal

pub returns-clause-ok : goal.returns-clause-ok
returns-clause-ok c =
    let fresh = rw (← c.self.view_is) at c.requires.fresh in
    let keys = c.self.inside.names.keys in
    rw (← c.self.view_is)
    (name_added (λ name. name.now) keys c.insert.new.self.keys c.args.name c.args.name.now refl
    (λ n at. fresh (has_at (map (λ name. name.now) keys) n c.args.name.now at)) c.in_ok-insert.ensures.keys)
