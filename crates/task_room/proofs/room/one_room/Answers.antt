use Rattle.task_room.proofs.OneRoom.{rooms_agree}
use Rattle.task_room.proofs.room.one_room.Goals as goal

pub returns : goal.returns
returns c = λ g a b x y. rooms_agree g c.args.task.now a b x y
