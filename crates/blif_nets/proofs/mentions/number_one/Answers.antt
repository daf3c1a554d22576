use Rattle.blif_nets.proofs.Counting.{first_of}
use Rattle.blif_nets.proofs.mentions.number_one.Goals as goal

pub returns : goal.returns
returns c = record {
  adds = c.in_ok-number.ensures.names;
  at = first_of c.number.new.self c.args.word.now c.in_ok-number.number c.law.ensures.once c.in_ok-number.ensures.number;
}
