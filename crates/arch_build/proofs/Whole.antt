-- What a file says, part by part.
use Rattle.std.proofs.Common.{◌≡◌, List, ap, ◌∙◌}
use Rattle.arch_types.specs.declared.arch.ArchParts.{ArchParts}
use Rattle.arch_types.specs.declared.arch.CellModel.{CellModel}
use Rattle.arch_types.specs.declared.arch.Tile.{Tile}
use Rattle.arch_types.specs.declared.arch.Layout.{Layout}
use Rattle.arch_types.specs.declared.block.PbType.{PbType}
use Rattle.elem_text.specs.declared.elem.Elem.{Elem}
use Rattle.arch_build.specs.Said.{said_arch, said_models, said_blocks, said_tiles, said_layouts}
use Rattle.arch_types.specs.Models.{model_names}
use Rattle.arch_types.specs.Tree.{block_names}

abbrev arch_of : List CellModel → List Tile → List Layout → List PbType → ArchParts
arch_of models tiles layouts blocks = record { models = models; tiles = tiles; layouts = layouts; blocks = blocks }

pub said_is : (root : Elem) (models models' : List CellModel) (blocks blocks' : List PbType) (tiles : List Tile) (layouts : List Layout) →
    models ≡ said_models root → models' ≡ models → blocks ≡ said_blocks (model_names models') root → blocks' ≡ blocks →
    tiles ≡ said_tiles (block_names blocks') root → layouts ≡ said_layouts root → arch_of models tiles layouts blocks ≡ said_arch root
said_is root models models' blocks blocks' tiles layouts m ms b bs t l =
    let blocks_are : blocks ≡ said_blocks (model_names (said_models root)) root = b ∙ ap (λ x. said_blocks (model_names x) root) (ms ∙ m) in
    let tiles_are : tiles ≡ said_tiles (block_names (said_blocks (model_names (said_models root)) root)) root = t ∙ ap (λ x. said_tiles (block_names x) root) (bs ∙ blocks_are) in
    ap (λ x. arch_of x tiles layouts blocks) m ∙ ap (λ x. arch_of (said_models root) x layouts blocks) tiles_are
    ∙ ap (λ x. arch_of (said_models root) (said_tiles (block_names (said_blocks (model_names (said_models root)) root)) root) x blocks) l
    ∙ ap (λ x. arch_of (said_models root) (said_tiles (block_names (said_blocks (model_names (said_models root)) root)) root) (said_layouts root) x) blocks_are
