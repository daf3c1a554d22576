use Rattle.blif_nets.proofs.Growing.{one_growth, one_known, never_both}
use Rattle.blif_nets.proofs.Counting.{one_numbers}
use Rattle.blif_nets.proofs.laws.one_numbering.Goals as goal

pub returns : goal.returns
returns c = record {
  numbers = one_numbers;
  nets = λ old xs new other a b. one_growth old xs new other a b;
  names = λ old xs new other a b. one_growth old xs new other a b;
  known_net = λ old xs x y a b. one_known old xs x y a b;
  known_name = λ old xs x y a b. one_known old xs x y a b;
  never_net = λ old xs new x a f. never_both old xs new x a f;
  never_name = λ old xs new x a f. never_both old xs new x a f;
}
