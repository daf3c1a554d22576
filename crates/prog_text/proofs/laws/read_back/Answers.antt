use Rattle.std.proofs.Common.{◌≡◌, ◌++◌, sym, ap, subst, ◌∙◌}
use Rattle.prog_text.specs.declared.error.ProgError.TheVariants.{OutOfMemory}
use Rattle.prog_text.specs.Spelling.{prog_text}
use Rattle.prog_text.specs.Text.{SpellsProg, Refuses}
use Rattle.prog_text.proofs.OneReading.{spelled_once, never_refused}
use Rattle.prog_text.proofs.Parts.{if_ok_then, if_err_then}
use Rattle.prog_text.proofs.laws.read_back.Goals as goal

pub returns-clause-same : goal.returns-clause-same
returns-clause-same c =
    let text : c.as_slice.result.now ≡ prog_text c.args.graph.now c.args.prog.now =
    c.as_slice.ensures.value ∙ c.in_ok-write_prog.ensures.text ∙ ap (λ l. l ++ prog_text c.args.graph.now c.args.prog.now) c.new-text.ensures.items in
    let spelled : SpellsProg c.args.graph.now c.as_slice.result.now c.args.prog.now =
    subst (λ t. SpellsProg c.args.graph.now t c.args.prog.now) (sym text) (c.in_ok-write_prog.ensures.spells c.requires.plain) in
    if_ok_then (λ p. SpellsProg c.args.graph.now c.as_slice.result.now p) (λ p. p ≡ c.args.prog.now) c.read_prog.result
    (λ p other. spelled_once c.args.graph.now c.law.ensures c.requires.plain c.one_owner.ensures c.as_slice.result.now p c.args.prog.now other spelled) c.read_prog.ensures.spells

pub returns-clause-memory : goal.returns-clause-memory
returns-clause-memory c =
    let text : c.as_slice.result.now ≡ prog_text c.args.graph.now c.args.prog.now =
    c.as_slice.ensures.value ∙ c.in_ok-write_prog.ensures.text ∙ ap (λ l. l ++ prog_text c.args.graph.now c.args.prog.now) c.new-text.ensures.items in
    let spelled : SpellsProg c.args.graph.now c.as_slice.result.now c.args.prog.now =
    subst (λ t. SpellsProg c.args.graph.now t c.args.prog.now) (sym text) (c.in_ok-write_prog.ensures.spells c.requires.plain) in
    if_err_then (Refuses c.args.graph.now c.as_slice.result.now) (λ e. e ≡ OutOfMemory) c.read_prog.result
    (λ e refused. never_refused c.args.graph.now c.law.ensures c.requires.plain c.one_owner.ensures 1 c.as_slice.result.now c.args.prog.now e spelled refused) c.read_prog.ensures.refused
