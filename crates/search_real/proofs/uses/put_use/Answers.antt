use Rattle.std.proofs.Common.{◌+◌, length, sym, ap, ◌∙◌, subst}
use Rattle.std.proofs.lemmas.Result.{on_ok_weaker}
use Rattle.prog_map.specs.Choices.{with_used}
use Rattle.search_rules.specs.Reading.{is_taken}
use Rattle.search_real.specs.Said.{Says}
use Rattle.search_real.proofs.Saying.{use_put}
use Rattle.search_real.proofs.uses.put_use.Goals as goal

pub returns-then-is_taken : goal.returns-then-is_taken
returns-then-is_taken c =
    let old = c.args.prog.now in
    let leaf = c.args.leaf.0 in
    let all = length c.args.graph.now.instances in
    let taken = ap is_taken (sym c.occupant_in.ensures) ∙ sym c.is_taken.ensures ∙ c.if-is_taken.true in
    let said = use_put c.args.graph.now c.args.trail.now.made old (with_used old leaf) leaf all 0 0 c.requires.before taken (c.setting_laws.ensures.uses old leaf) in
    on_ok_weaker c.set_used.result (λ is. subst (λ x. Says c.args.graph.now c.args.trail.now.made x all (leaf + 1) 0 0) (sym is) said) c.set_used.ensures.ok
