use Rattle.cmd_trace.proofs.Answered.{last_inside, adds_last}
use Rattle.cmd_trace.proofs.lines.put_answer.Goals as goal

pub put_pin-requires : goal.put_pin-requires
put_pin-requires c = last_inside c.args.graph.now c.args.prog.now c.args.last.now c.args.pin.0 _ c.law.ensures c.requires.last c.requires.inside

pub returns-in-Some : goal.returns-in-Some
returns-in-Some c =
    adds_last c.args.graph.now c.args.prog.now c.args.last.now c.args.pin.0 _ _ _ _ c.put_pin.result c.requires.last c.requires.inside c.in-Some.ensures.exact c.put_pin.ensures
