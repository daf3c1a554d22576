use Rattle.real_back.proofs.laws.realised_is_there.Goals as goal

pub returns : goal.returns
returns c g n t r is = record {
  of = is.of;
  each = is.homes.each;
  leaves = λ place leaf at. is.of.leaves leaf (is.homes.used place leaf at);
  holds = is.homes.holds;
  pins = is.entries.pins;
  nets = is.entries.nets;
  ascending = is.entries.ascending;
}
