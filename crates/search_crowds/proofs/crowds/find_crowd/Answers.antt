use Rattle.std.proofs.Common.{ℕ, List, map, sym, ap, subst, ◌∙◌}
use Rattle.vtr_base.specs.Lists.{Has}
use Rattle.pb_expand.specs.declared.number.PinIx.{PinIx}
use Rattle.pb_expand.specs.Graph.{pin_ix}
use Rattle.task_types.specs.declared.tree.TreeNode.TheVariants.{Crowd}
use Rattle.search_rules.specs.Closing.{Closes}
use Rattle.search_crowds.specs.Webs.{IsFlowOf}
use Rattle.search_crowds.proofs.Taking.{net_inside}
use Rattle.search_crowds.proofs.Joined.{first_inside, closes_at, uncrowded_at}
use Rattle.search_crowds.proofs.crowds.find_crowd.Goals as goal

pub first_needs-firsts-requires-clause-inside : goal.first_needs-firsts-requires-clause-inside
first_needs-firsts-requires-clause-inside c = λ number need at. net_inside c.args.graph.now c.args.task.now need (c.requires.task.needs number need at)

pub flow_of-flow-requires-clause-needs : goal.flow_of-flow-requires-clause-needs
flow_of-flow-requires-clause-needs c = λ number has.
    first_inside c.args.task.now c.args.trail.now.made c.in_ok-needs.needs.items number (c.in_ok-needs.ensures.firsts c.args.trail.now.made) (subst (λ (l : List ℕ). Has l number) c.as_slice.ensures.value has)

pub returns-in-Paths-clause-uncrowded : goal.returns-in-Paths-clause-uncrowded
returns-in-Paths-clause-uncrowded c =
    uncrowded_at c.args.graph.now c.args.net.now.atoms c.args.task.now c.args.trail.now.made c.in_ok-needs.needs.items c.in-Paths.field-0 c.in_ok-flow.field-0 c.in-Paths.is (c.in_ok-needs.ensures.firsts c.args.trail.now.made)
    (subst (λ (l : List ℕ). IsFlowOf c.args.graph.now c.args.net.now.atoms c.args.task.now c.args.trail.now.made l c.in_ok-flow.field-0) c.as_slice.ensures.value c.in_ok-flow.ensures.flow)

pub returns-in_ok-pins_of-in-CutSet-clause-closes : goal.returns-in_ok-pins_of-in-CutSet-clause-closes
returns-in_ok-pins_of-in-CutSet-clause-closes c =
    let pins = c.from_vec-in-CutSet.ensures ∙ c.in_ok-pins_of-in-CutSet.ensures ∙ ap (λ (l : List ℕ). map pin_ix l) c.as_slice-in-CutSet.ensures in
    subst (λ (l : List PinIx). Closes c.args.graph.now c.args.net.now.atoms c.args.task.now c.args.trail.now.made (Crowd c.from_vec.result l)) (sym pins)
    (subst (λ (l : List ℕ). Closes c.args.graph.now c.args.net.now.atoms c.args.task.now c.args.trail.now.made (Crowd l (map pin_ix c.in-CutSet.cut))) (sym c.from_vec.ensures)
    (closes_at c.args.graph.now c.args.net.now.atoms c.args.task.now c.args.trail.now.made c.in_ok-needs.needs.items c.in-CutSet.cut c.in_ok-flow.field-0 c.in-CutSet.is (c.in_ok-needs.ensures.firsts c.args.trail.now.made)
    (subst (λ (l : List ℕ). IsFlowOf c.args.graph.now c.args.net.now.atoms c.args.task.now c.args.trail.now.made l c.in_ok-flow.field-0) c.as_slice.ensures.value c.in_ok-flow.ensures.flow)))
