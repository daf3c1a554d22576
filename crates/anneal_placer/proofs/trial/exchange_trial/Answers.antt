-- The second exchange undoes the first.
use Rattle.std.proofs.Common.{◌∙◌, ap}
use Rattle.std.specs.List.{swap}
use Rattle.anneal_placer.proofs.Steps.{swap_back}
use Rattle.anneal_placer.proofs.trial.exchange_trial.Goals as goal

pub returns-clause-kept : goal.returns-clause-kept
returns-clause-kept c =
    c.swap-2.ensures.after ∙ ap (λ p. swap p c.args.a c.args.b) c.swap.ensures.after ∙ swap_back c.args.places.now c.args.a c.args.b c.requires.a c.requires.b
