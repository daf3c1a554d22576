use Rattle.std.proofs.Common.{Some, refl, ap, ◌∙◌}
use Rattle.std.proofs.lemmas.Option.{slice_get-get_or}
use Rattle.task_reach.proofs.Starting.{entry_found}
use Rattle.task_reach.proofs.active.has_net.Goals as goal

pub returns-then-entry-net : goal.returns-then-entry-net
returns-then-entry-net c = (
  λ _. (
    _,
    entry_found c.args.entries.now c.loop-entry.entry-index _ c.requires (slice_get-get_or c.args.entries.now c.loop-entry.entry-index (record { pin = record { 0 = 0 }; net = 0 }) c.loop-entry-test.true)
        ∙ ap (λ n. Some n) c.if-entry-net.true,
  ),
  λ _. refl,
)
