use Rattle.mode_edges.proofs.NoReading.{no_word_undotted, no_word_dotted, no_word_part}
use Rattle.mode_edges.proofs.word.word.Goals as goal

pub returns-in_err-head : goal.returns-in_err-head
returns-in_err-head c = rw c.from_residual.ensures (no_word_undotted c.args.text.now c.in_err-head.ensures)

pub returns-in-Some : goal.returns-in-Some
returns-in-Some c =
    no_word_dotted c.args.text.now c.in_ok-head.head.now c.in_ok-head.tail.now _ _ c.in_ok-head.ensures c.in-Some.ensures

pub returns-in_err-port : goal.returns-in_err-port
returns-in_err-port c =
    rw c.from_residual-in_err-port.ensures
    (no_word_part c.args.text.now c.in_ok-head.head.now c.in_ok-head.tail.now c.in_ok-head.ensures c.in_err-port.ensures)
