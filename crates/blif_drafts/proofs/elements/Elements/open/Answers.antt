use Rattle.blif_drafts.proofs.Opened.{opens}
use Rattle.blif_drafts.proofs.elements.Elements.open.Goals as goal

pub returns : goal.returns
returns c = λ all e held opened.
    opens all e c.args.self.now _ c.args.next held opened c.in_ok-reopen.ensures.whole c.in_ok-reopen.ensures.next c.in_ok-boxes.ensures
