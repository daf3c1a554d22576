-- The owners in a block type, read off lists of modes and children.
use mathlib.Core.Former.{Count}
use Rattle.std.specs.Prelude.{◌≡◌, ℕ, List, ◌++◌}
use Rattle.std.specs.List.{flat_map}
use Rattle.std.proofs.Common.{refl, ap, rules}
use Rattle.arch_types.specs.declared.block.PbType.{PbType}
use Rattle.arch_types.specs.declared.block.Kind.{Kind, Modes', Row_of-Mode, end_of-Mode, more_of-Mode, out-Kind, items-the_row-Mode}
use Rattle.arch_types.specs.declared.block.Kind.TheViews.{the_lemmas}
use Rattle.arch_types.specs.declared.block.Mode.{Mode, Mode', Row_of-PbType, end_of-PbType, more_of-PbType, out-Mode, items-the_row-PbType}
use Rattle.arch_types.specs.Tree.{name_of_mode, modes_of}
use Rattle.meta_block.specs.Blocks.{way_to, modes_owners, kind_owners, mode_owners, kids_owners, owners_below, opened_mode}

modes_owners_are : (way : List (List ℕ)) (block : PbType) (n : Count) (row : Row_of-Mode n) → modes_owners way block row ≡ flat_map (mode_owners way block) (items-the_row-Mode n row)
modes_owners_are way block n (more_of-Mode m rest) = ap (λ l. mode_owners way block m ++ l) (modes_owners_are way block _ rest)
modes_owners_are way block n end_of-Mode = refl

kids_owners_are : (way : List (List ℕ)) (n : Count) (row : Row_of-PbType n) → kids_owners way row ≡ flat_map (owners_below way) (items-the_row-PbType n row)
kids_owners_are way n (more_of-PbType name count ports kind metas rest) =
    ap (λ l. (owners_below way (record { name = name; count = count; ports = ports; kind = kind; metas = metas })) ++ l) (kids_owners_are way _ rest)
kids_owners_are way n end_of-PbType = refl

pub kind_owners_is : (way : List (List ℕ)) (block : PbType) (kind : Kind) → kind_owners way block kind ≡ flat_map (mode_owners way block) (modes_of kind)
unfolding out-Kind denote.Hole.Carrier.out
kind_owners_is way block (Modes' n modes) = search (rules, the_lemmas, modes_owners_are)
kind_owners_is way block _ = refl

pub mode_owners_is : (way : List (List ℕ)) (block : PbType) (m : Mode) → mode_owners way block m ≡ opened_mode (way_to way (name_of_mode m)) block m
unfolding out-Mode denote.Hole.Carrier.out
mode_owners_is way block (Mode' name n kids inters metas) = search (rules, the_lemmas, kids_owners_are)
