use Rattle.meta_said.proofs.Meaning.{owner_means_one}
use Rattle.meta_said.proofs.laws.one_owner.Goals as goal

pub returns : goal.returns
returns c =
    let means = c.one_meaning.ensures in
    owner_means_one (record { prefix = means.prefix; features = means.features; kind = means.kind; lut = means.lut; children = means.children; params = means.params })
