use Rattle.blif_elems.specs.Seen.{texts}
use Rattle.blif_elems.proofs.Latches.{bad_latch, untrue}
use Rattle.blif_elems.proofs.behind.rising.Goals as goal

pub returns-then-not-are_three_nets : goal.returns-then-not-are_three_nets
returns-then-not-are_three_nets c =
    bad_latch c.args.loaded.now c.args.made.now c.args.control.now (texts c.args.init.now)
    (λ _ nets. untrue c.are_three_nets.result (c.are_three_nets.ensures.1 nets) c.if-not-are_three_nets.true)
