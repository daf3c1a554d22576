use Rattle.std.proofs.Common.{length, ap, sym, subst, ◌∙◌, arith}
use Rattle.std.proofs.lemmas.List.{length-map}
use Rattle.std.specs.Map.{keys_of}
use Rattle.list_laws.specs.Orders.{Once}
use Rattle.rr_nodes.specs.Placing.{ids_of}
use Rattle.rr_nodes.proofs.Kept.{few_ids, ids_kept}
use Rattle.rr_nodes.proofs.nodes.Nodes.law.Goals as goal

pub returns-clause-once : goal.returns-clause-once
returns-clause-once c =
    rw (← c.self.view_is)
    (subst Once (sym (ids_kept c.self.inside.gathered.carried.items c.self.inside.gathered.places.entries c.self.invariant.same)) c.self.invariant.once)

pub returns-clause-few : goal.returns-clause-few
returns-clause-few c =
    let ks = keys_of c.self.inside.gathered.places.entries in
    let few = few_ids 2147483648 ks c.self.invariant.once c.self.invariant.small in
    omega (arith, few, ap length (ap ids_of (sym c.self.view_is) ∙ ids_kept c.self.inside.gathered.carried.items c.self.inside.gathered.places.entries c.self.invariant.same), length-map c.args.self.now (λ n. n.carried.id))
