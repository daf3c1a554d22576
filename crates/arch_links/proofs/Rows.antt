-- The models of boxes at an element, read off the list of its children.
use mathlib.Core.Former.{Count}
use Rattle.std.proofs.Common.{◌≡◌, ◌++◌, refl, ap, rules}
use Rattle.std.specs.List.{flat_map}
use Rattle.elem_text.specs.declared.elem.Elem.{Elem, Elem', Row_of-Elem, end_of-Elem, more_of-Elem, out-Elem, items-the_row-Elem}
use Rattle.elem_text.specs.declared.elem.Elem.TheViews.{the_lemmas}
use Rattle.arch_build.specs.Said.{inside}
use Rattle.arch_links.specs.Links.{models_at, models_among, own_model, holds_blocks}

pub models_are : (n : Count) (row : Row_of-Elem n) → models_among row ≡ flat_map models_at (items-the_row-Elem n row)
models_are n (more_of-Elem e rest) = ap (λ l. models_at e ++ l) (models_are _ rest)
models_are n end_of-Elem = refl

pub models_is : (e : Elem) → models_at e ≡ own_model e ++ holds_blocks e (flat_map models_at (inside e))
unfolding out-Elem denote.Hole.Carrier.out
models_is (Elem' name attrs text n kids place) = search (rules, the_lemmas, models_are)
