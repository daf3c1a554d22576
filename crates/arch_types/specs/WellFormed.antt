-- What every architecture keeps: all that its file has to say of models, block types, tiles and
-- layouts, so that no one who holds an architecture tests it again.
use Rattle.std.specs.Prelude.{length}
use Rattle.arch_types.specs.declared.arch.ArchParts.{ArchParts}
use Rattle.arch_types.specs.Models.{AreModels}
use Rattle.arch_types.specs.Blocks.{AreBlockTypes}
use Rattle.arch_types.specs.Tiles.{AreTiles, AreLayouts}

pub record IsWellFormed (a : ArchParts) : Type 0 where
  pub models : AreModels a.models
  pub tiles : AreTiles a.blocks a.tiles
  pub layouts : AreLayouts a.layouts
  pub blocks : AreBlockTypes (length a.models) a.blocks
