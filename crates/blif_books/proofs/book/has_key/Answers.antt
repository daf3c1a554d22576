use Rattle.blif_books.proofs.Driving.{key_there}
use Rattle.blif_books.proofs.book.has_key.Goals as goal

pub returns : goal.returns
returns c = key_there c.args.driven.now.keys c.args.net c.contains.result c.contains.ensures
