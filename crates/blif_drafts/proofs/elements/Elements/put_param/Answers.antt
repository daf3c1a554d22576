use Rattle.std.proofs.Common.{refl}
use Rattle.blif_drafts.proofs.Changed.{param_put}
use Rattle.blif_drafts.proofs.elements.Elements.put_param.Goals as goal

pub returns-in_ok-put-in-Box-clause-put : goal.returns-in_ok-put-in-Box-clause-put
returns-in_ok-put-in-Box-clause-put c = λ all held.
    param_put all c.args.self.now _ c.in-Box.name c.in-Box.model c.in-Box.pins c.in-Box.params c.put.new.self c.args.name.now c.args.value.now c.in-Box.is refl refl refl c.in_ok-put-in-Box.ensures held
