use Rattle.meta_said.proofs.Meaning.{inter_means_one}
use Rattle.meta_said.proofs.laws.one_inter.Goals as goal

pub returns : goal.returns
returns c = λ block mode inter. inter_means_one block mode inter (c.one_meaning.ensures.mux block mode inter)
