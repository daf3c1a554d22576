use Rattle.meta_block.specs.Blocks.{owners_of}
use Rattle.meta_block.proofs.Meaning.{owners_mean_one}
use Rattle.meta_block.proofs.laws.one_block.Goals as goal

pub returns : goal.returns
returns c = λ block. owners_mean_one (record { owner = c.one_owner.ensures; inter = c.one_inter.ensures }) (owners_of block)
