use Rattle.std.proofs.Common.{◌∙◌}
use Rattle.mode_edges.proofs.Indexes.{finds_name}
use Rattle.mode_edges.proofs.index.find_name.Goals as goal

pub returns : goal.returns
returns c = finds_name c.args.index.now c.args.name.now c.copied.result (c.copied.ensures ∙ c.get.ensures.value)
