-- What is told of an owner whose text is refused.
use Rattle.std.specs.Prelude.{ℕ, List}
use Rattle.meta_lines.specs.declared.error.LineError.{LineError}
use Rattle.meta_lines.specs.declared.error.LineError.TheVariants as line
use Rattle.meta_block.specs.declared.error.MetaError.{MetaError}
use Rattle.meta_block.specs.declared.error.MetaError.TheVariants.{BadMetaLine, PrefixCount, UnknownInput, FeatureName, OutOfMemory}

abbrev pub told : List ℕ → LineError → MetaError
told owner (line.BadLine at) = BadMetaLine owner at
told owner line.PrefixCount = PrefixCount owner
told owner (line.UnknownInput at) = UnknownInput owner at
told owner (line.FeatureName at) = FeatureName owner at
told owner line.OutOfMemory = OutOfMemory
