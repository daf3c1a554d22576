-- The owners of metadata in a block type, in the order in which their metadata is read.
use Rattle.std.specs.Prelude.{List, [], ◌∷◌, ◌++◌, map}
use Rattle.arch_types.specs.declared.block.PbType.{PbType}
use Rattle.arch_types.specs.declared.block.Kind.{Kind, Modes', Row_of-Mode, end_of-Mode, more_of-Mode}
use Rattle.arch_types.specs.declared.block.Mode.{Mode, Mode', Row_of-PbType, end_of-PbType, more_of-PbType}
use Rattle.arch_types.specs.declared.block.Inter.{Inter}
use Rattle.arch_types.specs.Tree.{inters_of}
use Rattle.meta_owners.specs.declared.walk.OwnerStep.{OwnerStep}
use Rattle.meta_owners.specs.declared.walk.OwnerStep.TheVariants as step

-- a step to an owner, which is open until the step out of it; an interconnect is never open
pub data Visit : Type 0 where
  at_pb_type : PbType → Visit
  at_mode : Mode → Visit
  at_inter : Inter → Visit
  end_of_mode : Visit
  end_of_pb_type : Visit

abbrev pub seen : OwnerStep → Visit
seen (step.PbType block) = at_pb_type block.now
seen (step.Mode mode) = at_mode mode.now
seen (step.Inter inter) = at_inter inter.now
seen step.EndOfMode = end_of_mode
seen step.EndOfPbType = end_of_pb_type

-- a mode and its interconnects, in file order
abbrev pub inter_steps : Mode → List Visit
inter_steps mode = at_mode mode ∷ map at_inter (inters_of mode)

abbrev mutual
  -- the owners in the modes of a kind
  pub kind_steps : Kind → List Visit
  kind_steps (Modes' n modes) = modes_steps modes
  kind_steps _ = []

  pub modes_steps : {m : _} → Row_of-Mode m → List Visit
  modes_steps end_of-Mode = []
  modes_steps (more_of-Mode m rest) = mode_steps m ++ modes_steps rest

  -- a mode, its interconnects, and then its children with the owners in them
  pub mode_steps : Mode → List Visit
  mode_steps (Mode' name n kids inters metas) = inter_steps (Mode' name n kids inters metas) ++ (kids_steps kids ++ end_of_mode ∷ [])

  pub kids_steps : {m : _} → Row_of-PbType m → List Visit
  kids_steps end_of-PbType = []
  kids_steps (more_of-PbType name count ports kind metas rest) =
      (at_pb_type (record { name = name; count = count; ports = ports; kind = kind; metas = metas }) ∷ (kind_steps kind ++ end_of_pb_type ∷ [])) ++ kids_steps rest

-- a pb_type, and then mode by mode what stands in it
abbrev pub steps_of : PbType → List Visit
steps_of block = at_pb_type block ∷ (kind_steps block.kind ++ end_of_pb_type ∷ [])
