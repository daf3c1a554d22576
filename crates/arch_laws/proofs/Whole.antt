-- The whole law.
use Rattle.std.proofs.Common.{◌≡◌, ◌<◌, ◌^◌, List, sym, subst}
use Rattle.arch_types.specs.declared.arch.ArchParts.{ArchParts}
use Rattle.arch_types.specs.declared.arch.CellModel.{CellModel}
use Rattle.arch_types.specs.declared.block.PbType.{PbType}
use Rattle.elem_text.specs.declared.elem.Elem.{Elem}
use Rattle.elem_text.specs.Held.{IsUtf8Elem, elements}
use Rattle.arch_build.specs.Said.{said_arch, said_models, said_blocks}
use Rattle.arch_types.specs.Models.{model_names}
use Rattle.arch_links.specs.Links.{AreLinked}
use Rattle.arch_rules.specs.Walks.{IsFineFile}
use Rattle.arch_types.specs.WellFormed.{IsWellFormed}
use Rattle.arch_laws.proofs.BlockTypes.{block_types_are}
use Rattle.arch_laws.proofs.Models.{models_are}
use Rattle.arch_laws.proofs.Layouts.{layouts_are}
use Rattle.arch_laws.proofs.Tiles.{tiles_are}

said_well : (root : Elem) → IsFineFile root → AreLinked root (said_arch root) → IsUtf8Elem root → elements root < 2 ^ 32 → IsWellFormed (said_arch root)
said_well root fine linked utf8 few =
    let models : List CellModel = said_models root in
    let blocks : List PbType = said_blocks (model_names models) root in
    record {
      models = models_are root fine utf8 few;
      tiles = tiles_are blocks root fine utf8 few linked.blocks linked.ports;
      layouts = layouts_are root utf8 few;
      blocks = block_types_are models root fine utf8 few linked.models;
    }

pub well_formed_is : (root : Elem) (arch : ArchParts) → IsFineFile root → arch ≡ said_arch root → AreLinked root arch → IsUtf8Elem root → elements root < 2 ^ 32 →
    IsWellFormed arch
well_formed_is root arch fine says linked utf8 few = subst IsWellFormed (sym says) (said_well root fine (subst (λ a. AreLinked root a) says linked) utf8 few)
