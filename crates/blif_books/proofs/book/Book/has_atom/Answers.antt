use Rattle.blif_books.proofs.Driving.{has_name}
use Rattle.blif_books.proofs.book.Book.has_atom.Goals as goal

pub returns : goal.returns
returns c = rw (← c.self.view_is) (has_name c.self.inside.names c.args.name.now c.find.result c.is_some.result c.is_some.ensures c.find.ensures)
