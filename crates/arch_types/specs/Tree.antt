-- A pb_type tree, one level at a time and as lists.
use Rattle.std.specs.Prelude.{ℕ, List, [], map}
use Rattle.arch_types.specs.declared.block.PbType.{PbType}
use Rattle.arch_types.specs.declared.block.Kind.{Kind, out-Kind}
use Rattle.arch_types.specs.declared.block.Kind.TheOpen.{Modes}
use Rattle.arch_types.specs.declared.block.Mode.{Mode, out-Mode}
use Rattle.arch_types.specs.declared.block.Inter.{Inter}
use Rattle.arch_types.specs.declared.block.Meta.{Meta}

-- the modes of a kind; a leaf has none
abbrev pub modes_of : Kind → List Mode
modes_of k = elim (out-Kind k) [ Modes modes ↦ modes | _ ↦ [] ]

abbrev pub name_of_mode : Mode → List ℕ
name_of_mode mode = (out-Mode mode).name

-- the children of a mode, in file order
abbrev pub kids_of : Mode → List PbType
kids_of mode = (out-Mode mode).kids

-- the interconnects of a mode, in file order
abbrev pub inters_of : Mode → List Inter
inters_of mode = (out-Mode mode).inters

-- the metadata of a mode, in file order
abbrev pub metas_of : Mode → List Meta
metas_of mode = (out-Mode mode).metas

abbrev pub block_names : List PbType → List (List ℕ)
block_names blocks = map (λ b. b.name) blocks
