-- The steps of a block type, read off lists of modes and children.
use mathlib.Core.Former.{Count}
use Rattle.std.specs.Prelude.{◌≡◌, List, [], ◌∷◌, ◌++◌, flat_map}
use Rattle.std.proofs.Common.{refl, ap, ◌∙◌, rules}
use Rattle.arch_types.specs.declared.block.Kind.{Kind, Modes', Row_of-Mode, end_of-Mode, more_of-Mode, out-Kind, items-the_row-Mode}
use Rattle.arch_types.specs.declared.block.Kind.TheVariants.{Modes}
use Rattle.arch_types.specs.declared.block.Kind.TheViews.{the_lemmas}
use Rattle.arch_types.specs.declared.block.Mode.{Mode, Mode', Row_of-PbType, end_of-PbType, more_of-PbType, out-Mode, items-the_row-PbType}
use Rattle.arch_types.specs.Tree.{modes_of, kids_of}
use Rattle.meta_owners.specs.Owners.{end_of_mode, inter_steps, kind_steps, modes_steps, mode_steps, kids_steps, steps_of}

modes_steps_are : (n : Count) (row : Row_of-Mode n) → modes_steps row ≡ flat_map mode_steps (items-the_row-Mode n row)
modes_steps_are n (more_of-Mode m rest) = ap (λ l. mode_steps m ++ l) (modes_steps_are _ rest)
modes_steps_are n end_of-Mode = refl

kids_steps_are : (n : Count) (row : Row_of-PbType n) → kids_steps row ≡ flat_map steps_of (items-the_row-PbType n row)
kids_steps_are n (more_of-PbType name count ports kind metas rest) =
    ap (λ l. (steps_of (record { name = name; count = count; ports = ports; kind = kind; metas = metas })) ++ l) (kids_steps_are _ rest)
kids_steps_are n end_of-PbType = refl

kind_steps_is : (kind : Kind) → kind_steps kind ≡ flat_map mode_steps (modes_of kind)
unfolding out-Kind denote.Hole.Carrier.out
kind_steps_is (Modes' n modes) = search (rules, the_lemmas, modes_steps_are)
kind_steps_is _ = refl

pub mode_steps_is : (m : Mode) → mode_steps m ≡ inter_steps m ++ (flat_map steps_of (kids_of m) ++ end_of_mode ∷ [])
unfolding out-Mode denote.Hole.Carrier.out
mode_steps_is (Mode' name n kids inters metas) = search (rules, the_lemmas, kids_steps_are)

pub kind_steps_are : (kind : Kind) (modes : List Mode) → kind ≡ Modes modes → kind_steps kind ≡ flat_map mode_steps modes
unfolding out-Kind denote.Hole.Carrier.out
kind_steps_are kind modes is = kind_steps_is kind ∙ search (rules, the_lemmas, is)
