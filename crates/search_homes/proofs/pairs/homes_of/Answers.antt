use Rattle.std.proofs.Common.{sym, ap, ◌∙◌}
use Rattle.std.specs.Option.{option_copied}
use Rattle.search_homes.proofs.Pairing.{no_homes, some_homes}
use Rattle.search_homes.proofs.pairs.homes_of.Goals as goal

pub returns-in-None : goal.returns-in-None
returns-in-None c = no_homes c.args.task.now c.args.place (sym c.get.ensures.value ∙ ap (λ o. option_copied o) c.in-None.is)

pub returns-in-Some : goal.returns-in-Some
returns-in-Some c = some_homes c.args.task.now c.args.place c.in-Some.leaves.now c.as_slice.result.now (sym c.get.ensures.value ∙ ap (λ o. option_copied o) c.in-Some.is) c.as_slice.ensures
