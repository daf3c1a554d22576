use Rattle.room_law.proofs.Rooms.{within_room}
use Rattle.room_law.proofs.bound.room_law.Goals as goal

pub returns : goal.returns
returns c = λ n t nodes room is accepted long. within_room c.args.graph.now n t nodes room c.requires is accepted long
