use Rattle.blif_covers.proofs.Tables.{takes_known, known_output}
use Rattle.blif_covers.proofs.cover.Cover.takes.Goals as goal

pub returns-in-Some : goal.returns-in-Some
returns-in-Some c = λ rows holds. takes_known rows c.in-Some.known c.args.output (known_output rows c.args.self.now c.in-Some.known c.in-Some.is holds)
