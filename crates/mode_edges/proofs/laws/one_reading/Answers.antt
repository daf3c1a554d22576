use Rattle.mode_edges.proofs.OneMeaning.{reads_one}
use Rattle.mode_edges.proofs.laws.one_reading.Goals as goal

pub returns : goal.returns
returns c block mode role text ps qs a b = reads_one block mode role text ps qs a b
