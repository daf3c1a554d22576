-- What an element says as a block and as a mode, read off the list of its children.
use mathlib.Core.Former.{Count}
use Rattle.std.proofs.Common.{◌≡◌, ℕ, List, ◌++◌, refl, ap, rules}
use Rattle.std.specs.List.{flat_map}
use Rattle.elem_text.specs.declared.elem.Elem.{Elem, Elem', Row_of-Elem, end_of-Elem, more_of-Elem, out-Elem, items-the_row-Elem}
use Rattle.elem_text.specs.declared.elem.Elem.TheViews.{the_lemmas}
use Rattle.arch_build.specs.Said.{said_block, said_mode, blocks_among, modes_among, block_with, mode_with, inside}

pub blocks_are : (models : List (List ℕ)) (n : Count) (row : Row_of-Elem n) → blocks_among models row ≡ flat_map (said_block models) (items-the_row-Elem n row)
blocks_are models n (more_of-Elem e rest) = ap (λ l. said_block models e ++ l) (blocks_are models _ rest)
blocks_are models n end_of-Elem = refl

pub modes_are : (models : List (List ℕ)) (n : Count) (row : Row_of-Elem n) → modes_among models row ≡ flat_map (said_mode models) (items-the_row-Elem n row)
modes_are models n (more_of-Elem e rest) = ap (λ l. said_mode models e ++ l) (modes_are models _ rest)
modes_are models n end_of-Elem = refl

pub block_is : (models : List (List ℕ)) (e : Elem) → said_block models e ≡ block_with models e (flat_map (said_mode models) (inside e)) (flat_map (said_block models) (inside e))
unfolding out-Elem denote.Hole.Carrier.out
block_is models (Elem' name attrs text n kids place) = search (rules, the_lemmas, blocks_are, modes_are)

pub mode_is : (models : List (List ℕ)) (e : Elem) → said_mode models e ≡ mode_with e (flat_map (said_block models) (inside e))
unfolding out-Elem denote.Hole.Carrier.out
mode_is models (Elem' name attrs text n kids place) = search (rules, the_lemmas, blocks_are)
