use Rattle.std.proofs.Common.{◌≡◌, ◌+◌, Some, sym, ap, ◌∙◌, subst}
use Rattle.task_types.specs.Decisions.{entry_in}
use Rattle.search_real.specs.Entered.{HasEntriesBefore}
use Rattle.search_real.proofs.Entering.{entry_put}
use Rattle.search_real.proofs.entries.push_entry.Goals as goal

pub returns-in_ok-push : goal.returns-in_ok-push
returns-in_ok-push c =
    let made = c.args.trail.now.made in
    let is : entry_in made c.args.pin.0 ≡ Some (Some c.in-Some-Some.net) = sym c.in-Some-Some.ensures ∙ ap (λ o. Some o) c.in-Some-Some.field-0-is in
    subst (λ es. HasEntriesBefore made es (c.args.pin.0 + 1)) (sym c.in_ok-push.ensures.items)
    (entry_put made c.args.entries.now.items c.args.pin.0 c.requires.before c.in-Some-Some.net is)
