use Rattle.site_bits.proofs.Once.{bits_once}
use Rattle.site_bits.proofs.laws.one_list_of_bits.Goals as goal

pub returns : goal.returns
returns c = bits_once c.one_owner.ensures c.one_inter.ensures
