use Rattle.blif_books.proofs.Driving.{driven_by, not_there}
use Rattle.blif_books.proofs.book.Book.drives.Goals as goal

pub returns-in_default : goal.returns-in_default
returns-in_default c =
    rw (← c.self.view_is)
    (not_there (record { nets = c.self.inside.nets; driven = c.self.inside.driven.keys; names = c.self.inside.names }) c.args.name.now c.in_default.ensures)

pub returns : goal.returns
returns c =
    rw (← c.self.view_is)
    (driven_by (record { nets = c.self.inside.nets; driven = c.self.inside.driven.keys; names = c.self.inside.names }) c.args.name.now c.in-Some.net c.has_key.result c.law.ensures.once c.in-Some.ensures c.has_key.ensures)
