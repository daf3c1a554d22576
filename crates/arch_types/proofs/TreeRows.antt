-- The preorder of a block type, read off lists of modes and children.
use mathlib.Core.Former.{Count}
use Rattle.std.specs.Prelude.{◌≡◌, ◌+◌, ℕ, List, [], ◌∷◌, ◌++◌}
use Rattle.std.proofs.Common.{refl, ap, ◌∙◌, rules}
use Rattle.arch_types.specs.declared.block.PbType.{PbType}
use Rattle.arch_types.specs.declared.block.Kind.{Kind, Modes', Row_of-Mode, end_of-Mode, more_of-Mode, out-Kind, items-the_row-Mode}
use Rattle.arch_types.specs.declared.block.Kind.TheVariants.{Modes}
use Rattle.arch_types.specs.declared.block.Kind.TheViews.{the_lemmas}
use Rattle.arch_types.specs.declared.block.Mode.{Mode, Mode', Row_of-PbType, end_of-PbType, more_of-PbType, out-Mode, items-the_row-PbType}
use Rattle.arch_types.specs.Tree.{modes_of, kids_of}
use Rattle.arch_types.specs.Address.{Address, copies, below, in_modes, in_mode, in_kids}

-- what stands below an instance in these modes, the first of them numbered mode
abbrev pub modes_from : List Mode → ℕ → Address → List Address
modes_from [] mode here = []
modes_from (m ∷ modes) mode here = in_mode m mode here ++ modes_from modes (mode + 1) here

-- what stands below an instance in these children of a mode, the first of them numbered child
abbrev pub kids_from : List PbType → ℕ → ℕ → Address → List Address
kids_from [] mode child here = []
kids_from (kid ∷ kids) mode child here = copies (λ a. below kid.kind a) mode child 0 kid.count here ++ kids_from kids mode (child + 1) here

pub in_modes_are : (n : Count) (row : Row_of-Mode n) (mode : ℕ) (here : Address) →
    in_modes row mode here ≡ modes_from (items-the_row-Mode n row) mode here
in_modes_are n (more_of-Mode m rest) mode here = ap (λ l. in_mode m mode here ++ l) (in_modes_are _ rest (mode + 1) here)
in_modes_are n end_of-Mode mode here = refl

pub in_kids_are : (n : Count) (row : Row_of-PbType n) (mode child : ℕ) (here : Address) →
    in_kids row mode child here ≡ kids_from (items-the_row-PbType n row) mode child here
in_kids_are n (more_of-PbType name count ports kind metas rest) mode child here =
    ap (λ l. copies (λ a. below kind a) mode child 0 count here ++ l) (in_kids_are _ rest mode (child + 1) here)
in_kids_are n end_of-PbType mode child here = refl

pub below_is : (kind : Kind) (here : Address) → below kind here ≡ modes_from (modes_of kind) 0 here
unfolding out-Kind denote.Hole.Carrier.out
below_is (Modes' n modes) here = search (rules, the_lemmas, in_modes_are)
below_is _ here = refl

pub in_mode_is : (m : Mode) (mode : ℕ) (here : Address) → in_mode m mode here ≡ kids_from (kids_of m) mode 0 here
unfolding out-Mode denote.Hole.Carrier.out
in_mode_is (Mode' name n kids inters metas) mode here = search (rules, the_lemmas, in_kids_are)

pub below_modes_are : (kind : Kind) (modes : List Mode) → kind ≡ Modes modes → (here : Address) → below kind here ≡ modes_from modes 0 here
unfolding out-Kind denote.Hole.Carrier.out
below_modes_are kind modes is here = below_is kind here ∙ search (rules, the_lemmas, is)
