use Rattle.std.proofs.Common.{inr}
use Rattle.blif_elems.specs.Seen.{texts}
use Rattle.blif_books.proofs.Driving.{known_in, some_says, none_says, false_says, names_again}
use Rattle.blif_books.proofs.book.Book.make.Goals as goal

pub text-requires : goal.text-requires
text-requires c =
    let low = rw (← c.self.view_is) at c.requires in
    low c.in-Some.net
    (known_in c.self.inside.driven.keys c.args.driven.now c.in-Some.net (some_says c.in_ok-net.field-0 c.in-Some.net _ _ c.in-Some.is c.in_ok-net.ensures))

pub returns-then-not-branch-clause-refused : goal.returns-then-not-branch-clause-refused
returns-then-not-branch-clause-refused c =
    rw (← c.self.view_is)
    (inr (names_again (record { nets = c.self.inside.nets; driven = c.self.inside.driven.keys; names = c.self.inside.names }) c.args.driven.now (texts c.args.atoms.now) c.args.place c.drive_all.new.driven.keys
    (none_says c.in_ok-net.field-0 _ _ c.in_default.is c.in_ok-net.ensures) (false_says c.in_ok-take_words.field-0 _ _ c.if-not-branch.true c.in_ok-take_words.ensures)))
