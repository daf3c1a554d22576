use Rattle.std.proofs.Common.{◌≡◌, ◌+◌, ◌-◌, Option, Some, IsNone, IfSome, ◌∙◌, subst, arith}
use Rattle.pb_expand.specs.Graph.{Graph, LeadsTo}
use Rattle.pb_expand.proofs.RowLemmas.{address_read, address_leads}
use Rattle.pb_expand.proofs.graph.PbGraph.address_of.Goals as goal

some_not_none : {X : Type 0} {P : Type 0} (r : Option X) (x : X) → r ≡ Some x → IsNone r → P
some_not_none r x e none = let here : IsNone (Some x) = subst (λ o. IsNone o) e none in cc

pub returns-clause-root : goal.returns-clause-root
returns-clause-root c =
    let known = rw (← c.self.view_is) at c.requires in
    let after : c.args.pb.0 ≡ (c.args.pb.0 - 1) + 1 = omega arith in
    let read = address_read c.self.inside.rows.keys c.args.pb.0 (c.args.pb.0 - 1) c.copied.result c.self.invariant.tree (c.copied.ensures ∙ c.get_index.ensures.key) after known in
    (λ none. some_not_none c.copied.result read.0 read.1 none, λ zero. absurd (c.if-pb-eq0.false zero))

pub returns-clause-step : goal.returns-clause-step
returns-clause-step c =
    let known = rw (← c.self.view_is) at c.requires in
    let after : c.args.pb.0 ≡ (c.args.pb.0 - 1) + 1 = omega arith in
    let leads = address_leads c.self.inside.rows.keys c.args.pb.0 (c.args.pb.0 - 1) c.copied.result c.self.invariant.tree (c.copied.ensures ∙ c.get_index.ensures.key) after known in
    subst (λ (g : Graph). IfSome c.copied.result (λ s. LeadsTo g.instances s c.args.pb.0)) c.self.view_is leads
