use Rattle.run_base.proofs.Fronts.{front_begins, front_goes_on}
use Rattle.run_base.proofs.pieces.fronts_of_pieces.Goals as goal

pub returns-clause-begins : goal.returns-clause-begins
returns-clause-begins g piece = front_begins piece

pub returns-clause-goes_on : goal.returns-clause-goes_on
returns-clause-goes_on g piece = front_goes_on piece
