-- The nets of both blocks tell what the exchange does to the cost.
use Rattle.std.proofs.Common.{arith}
use Rattle.anneal_placer.specs.Task.{nets_of}
use Rattle.anneal_placer.proofs.Steps.{swapped}
use Rattle.anneal_placer.proofs.descent.exchange_helps.Goals as goal

pub returns-clause-value : goal.returns-clause-value
returns-clause-value c =
    let law = swapped c.args.task.now.sites.items c.args.places.now (nets_of c.args.task.now) c.args.a c.args.b c.requires.a c.requires.b in
    grind (arith, law, c.exchange_trial-trial.ensures.before, c.exchange_trial-trial.ensures.after)
