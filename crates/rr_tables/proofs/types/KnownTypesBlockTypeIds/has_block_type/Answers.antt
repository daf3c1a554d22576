use Rattle.std.proofs.Common.{◌∙◌}
use Rattle.rr_tables.proofs.Lookups.{knows}
use Rattle.rr_tables.proofs.types.KnownTypesBlockTypeIds.has_block_type.Goals as goal

pub returns : goal.returns
returns c = c.is_some.ensures ∙ knows c.args.self.now.types c.args.id c.block_type.result c.block_type.ensures
