use Rattle.std.proofs.Common.{◌≡◌, ◌++◌, ◌∷◌, [], ap, sym, ◌∙◌, Some, None, cond, is_some}
use Rattle.std.specs.HashMap.{get}
use Rattle.prog_map.specs.Groups.{same_mode}
use Rattle.prog_map.proofs.GroupLemmas.{numbers_of, grouped_push}
use Rattle.prog_map.proofs.groups.push_number.Goals as goal

pub returns-in_ok-push-in-Some : goal.returns-in_ok-push-in-Some
returns-in_ok-push-in-Some c =
    let holds = c.get_mut.follows.holds c.push.new.self in
    let found : get same_mode c.args.groups.now c.args.at ≡ Some c.in-Some.numbers.now = sym c.in-Some.ensures.value in
    let updates = holds.3 (ap is_some found) in
    grouped_push c.args.groups.now (c.get_mut.follows.lender c.push.new.self) c.args.at c.args.number c.in-Some.numbers.now
    (λ q. updates.0 q ∙ ap (λ ns. cond (same_mode c.args.at q) (Some ns) (get same_mode c.args.groups.now q)) c.in_ok-push-in-Some.ensures.ok)
    (ap numbers_of found)

pub returns-in_ok-insert-in-None : goal.returns-in_ok-insert-in-None
returns-in_ok-insert-in-None c =
    let updates = c.in_ok-insert-in-None.ensures.updates in
    let none : get same_mode c.args.groups.now c.args.at ≡ None = sym c.in-None.ensures.value in
    grouped_push c.args.groups.now c.insert.new.self c.args.at c.args.number []
    (λ q. updates.0 q ∙ ap (λ m. cond (same_mode c.args.at q) (Some c.push-in-None.new.self) (get same_mode m q)) c.get_mut.follows.holds-at-none
    ∙ ap (λ ns. cond (same_mode c.args.at q) (Some ns) (get same_mode c.args.groups.now q)) (c.in_ok-push-in-None.ensures.ok ∙ ap (λ l. l ++ c.args.number ∷ []) c.new-numbers.ensures))
    (ap numbers_of none)
