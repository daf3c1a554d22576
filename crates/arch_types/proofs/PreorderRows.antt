-- The pb_types of a tree in preorder, read off lists of modes and children.
use mathlib.Core.Former.{Count}
use Rattle.std.specs.Prelude.{◌≡◌, List, ◌++◌, flat_map}
use Rattle.std.proofs.Common.{refl, ap, ◌∙◌, rules}
use Rattle.arch_types.specs.declared.block.Kind.{Kind, Modes', Row_of-Mode, end_of-Mode, more_of-Mode, out-Kind, items-the_row-Mode}
use Rattle.arch_types.specs.declared.block.Kind.TheVariants.{Modes}
use Rattle.arch_types.specs.declared.block.Kind.TheViews.{the_lemmas}
use Rattle.arch_types.specs.declared.block.Mode.{Mode, Mode', Row_of-PbType, end_of-PbType, more_of-PbType, out-Mode, items-the_row-PbType}
use Rattle.arch_types.specs.Tree.{modes_of, kids_of}
use Rattle.arch_types.specs.Preorder.{inside, inside_modes, inside_mode, preorders, preorder}

inside_modes_are : (n : Count) (row : Row_of-Mode n) → inside_modes row ≡ flat_map inside_mode (items-the_row-Mode n row)
inside_modes_are n (more_of-Mode m rest) = ap (λ l. inside_mode m ++ l) (inside_modes_are _ rest)
inside_modes_are n end_of-Mode = refl

preorders_are : (n : Count) (row : Row_of-PbType n) → preorders row ≡ flat_map preorder (items-the_row-PbType n row)
preorders_are n (more_of-PbType name count ports kind metas rest) =
    ap (λ l. (preorder (record { name = name; count = count; ports = ports; kind = kind; metas = metas })) ++ l) (preorders_are _ rest)
preorders_are n end_of-PbType = refl

pub inside_is : (kind : Kind) → inside kind ≡ flat_map inside_mode (modes_of kind)
unfolding out-Kind denote.Hole.Carrier.out
inside_is (Modes' n modes) = search (rules, the_lemmas, inside_modes_are)
inside_is _ = refl

pub inside_mode_is : (m : Mode) → inside_mode m ≡ flat_map preorder (kids_of m)
unfolding out-Mode denote.Hole.Carrier.out
inside_mode_is (Mode' name n kids inters metas) = search (rules, the_lemmas, preorders_are)

pub inside_are : (kind : Kind) (modes : List Mode) → kind ≡ Modes modes → inside kind ≡ flat_map inside_mode modes
unfolding out-Kind denote.Hole.Carrier.out
inside_are kind modes is = inside_is kind ∙ search (rules, the_lemmas, is)
