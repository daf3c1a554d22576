use Rattle.std.proofs.Common.{◌≡◌, Some, slice_get, sym, ap, ◌∙◌}
use Rattle.std.proofs.lemmas.Option.{slice_get_within}
use Rattle.arch_types.specs.Address.{step_to}
use Rattle.pb_expand.specs.Expansion.{owner_address}
use Rattle.pb_expand.proofs.LocalPins.{local_pin}
use Rattle.pb_expand.proofs.graph.PbGraph.pin_of_local.Goals as goal

pub returns-in-None : goal.returns-in-None
returns-in-None c =
    local_pin c.args.self.now c.args.owner.0 c.args.mode c.args.owner.0 c.args.pin _ c.law.ensures c.requires
    (λ a at_owner. at_owner ∙ ap (λ o. Some (owner_address a c.args.mode o)) (sym c.in-None.is)) c.pin_of.ensures

pub pin_of-requires-in-Some : goal.pin_of-requires-in-Some
pin_of-requires-in-Some c =
    let leads = c.in_ok-pb-in-Some.ensures in
    slice_get_within c.args.self.now.instances c.in_ok-pb-in-Some.pb.0 (step_to leads.parent c.args.mode c.in-Some.child.child c.in-Some.child.instance) leads.is_child

pub returns-in_ok-pb-in-Some : goal.returns-in_ok-pb-in-Some
returns-in_ok-pb-in-Some c =
    let leads = c.in_ok-pb-in-Some.ensures in
    local_pin c.args.self.now c.args.owner.0 c.args.mode c.in_ok-pb-in-Some.pb.0 c.args.pin _ c.law.ensures c.requires
    (λ a at_owner.
    let both : Some a ≡ Some leads.parent = sym at_owner ∙ leads.is_parent in
    let same : a ≡ leads.parent = cc in
    leads.is_child ∙ ap (λ x. Some (owner_address x c.args.mode (Some c.in-Some.child))) (sym same) ∙ ap (λ o. Some (owner_address a c.args.mode o)) (sym c.in-Some.is))
    c.pin_of-in-Some.ensures

pub returns-in_err-pb-in-Some : goal.returns-in_err-pb-in-Some
returns-in_err-pb-in-Some c =
    rw c.from_residual.ensures
    (λ n is.
    let child = c.in-Some.child in
    let there : slice_get c.args.self.now.instances is.2.pb ≡ Some (step_to is.0 c.args.mode child.child child.instance) =
    is.2.is_instance ∙ ap (λ o. Some (owner_address is.0 c.args.mode o)) c.in-Some.is in
    c.in_err-pb-in-Some.ensures is.2.pb (c.keeps.ensures.parents c.args.owner.0 is.2.pb c.args.mode child.child child.instance is.0 is.1 there))
