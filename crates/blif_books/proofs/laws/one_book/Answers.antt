use Rattle.blif_books.proofs.OneBook.{Knows, one_mention, one_mentions, one_making, one_failing, made_or_not}
use Rattle.blif_books.proofs.laws.one_book.Goals as goal

pub returns : goal.returns
returns c =
    let all = c.one_numbering.ensures in
    let knows : Knows = record { numbers = all.numbers; nets = all.nets; names = all.names; known_net = all.known_net; never_net = all.never_net; never_name = all.never_name } in
    record {
      mention = one_mention knows;
      mentions = one_mentions knows;
      makes = one_making knows;
      fails = one_failing knows;
      never = made_or_not knows;
    }
