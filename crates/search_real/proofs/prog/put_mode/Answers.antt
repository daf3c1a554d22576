use Rattle.std.proofs.Common.{◌+◌, sym, subst}
use Rattle.std.proofs.lemmas.Result.{on_ok_weaker}
use Rattle.prog_map.specs.Choices.{with_mode}
use Rattle.search_real.specs.Said.{Says}
use Rattle.search_real.proofs.Saying.{mode_put}
use Rattle.search_real.proofs.prog.put_mode.Goals as goal

pub returns-in-Some : goal.returns-in-Some
returns-in-Some c =
    let old = c.args.prog.now in
    let pb = c.args.pb.0 in
    let mode = c.in-Some.mode in
    let said = mode_put c.args.graph.now c.args.trail.now.made old (with_mode old pb mode) pb 0 0 0 mode c.requires.before (sym c.in-Some.ensures) (c.setting_laws.ensures.mode old pb mode) in
    on_ok_weaker c.set_mode.result (λ is. subst (λ x. Says c.args.graph.now c.args.trail.now.made x (pb + 1) 0 0 0) (sym is) said) c.set_mode.ensures.ok
