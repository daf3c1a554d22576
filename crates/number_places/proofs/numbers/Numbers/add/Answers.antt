use Rattle.number_places.proofs.Puts.{put}
use Rattle.number_places.proofs.numbers.Numbers.add.Goals as goal

pub returns-clause-ok : goal.returns-clause-ok
returns-clause-ok c =
    rw (← c.self.view_is)
    (put c.self.inside.numbers.keys c.insert.new.self.keys c.args.number c.in_ok-is_new.is_new c.in_ok-is_new.ensures.added c.in_ok-is_new.ensures.keys)
