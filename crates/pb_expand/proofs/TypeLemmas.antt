-- The modes of a tree's pb_types, read off lists of modes and children.
use mathlib.Core.Former.{Count}
use Rattle.std.specs.Prelude.{◌≡◌, List, [], ◌∷◌, ◌++◌}
use Rattle.std.proofs.Common.{refl, ap, rules}
use Rattle.arch_types.specs.declared.block.PbType.{PbType}
use Rattle.arch_types.specs.declared.block.Kind.{Kind, Modes', Row_of-Mode, end_of-Mode, more_of-Mode, out-Kind, items-the_row-Mode}
use Rattle.arch_types.specs.declared.block.Kind.TheViews.{the_lemmas}
use Rattle.arch_types.specs.declared.block.Mode.{Mode, Mode', Row_of-PbType, end_of-PbType, more_of-PbType, out-Mode, items-the_row-PbType}
use Rattle.arch_types.specs.Tree.{modes_of, kids_of}
use Rattle.pb_expand.specs.Types.{ModeOf, modes_below, below_modes, below_mode, below_kids, modes_in_tree}

-- the modes of the pb_types below these modes, and below these children
abbrev pub modes_list : List Mode → List ModeOf
modes_list [] = []
modes_list (m ∷ modes) = below_mode m ++ modes_list modes

abbrev pub kids_list : List PbType → List ModeOf
kids_list [] = []
kids_list (kid ∷ kids) = modes_in_tree kid ++ kids_list kids

pub below_modes_are : (n : Count) (row : Row_of-Mode n) → below_modes row ≡ modes_list (items-the_row-Mode n row)
below_modes_are n (more_of-Mode m rest) = ap (λ l. below_mode m ++ l) (below_modes_are _ rest)
below_modes_are n end_of-Mode = refl

pub below_kids_are : (n : Count) (row : Row_of-PbType n) → below_kids row ≡ kids_list (items-the_row-PbType n row)
below_kids_are n (more_of-PbType name count ports kind metas rest) =
    ap (λ l. modes_in_tree (record { name = name; count = count; ports = ports; kind = kind; metas = metas }) ++ l) (below_kids_are _ rest)
below_kids_are n end_of-PbType = refl

pub modes_below_is : (kind : Kind) → modes_below kind ≡ modes_list (modes_of kind)
unfolding out-Kind denote.Hole.Carrier.out
modes_below_is (Modes' n modes) = search (rules, the_lemmas, below_modes_are)
modes_below_is _ = refl

pub below_mode_is : (m : Mode) → below_mode m ≡ kids_list (kids_of m)
unfolding out-Mode denote.Hole.Carrier.out
below_mode_is (Mode' name n kids inters metas) = search (rules, the_lemmas, below_kids_are)
