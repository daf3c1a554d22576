-- No file has its parts tied together and a first place at which they aren't.
use Rattle.std.proofs.Common.{List, [], ◌∷◌, inl, inr}
use Rattle.elem_text.specs.declared.elem.Elem.{Elem}
use Rattle.arch_types.specs.declared.arch.ArchParts.{ArchParts}
use Rattle.arch_links.specs.declared.error.LinkError.{LinkError}
use Rattle.arch_links.specs.declared.error.LinkError.TheVariants.{SitePorts, NoSuchBlock, UnknownModel, OutOfMemory}
use Rattle.arch_links.specs.First.{IsFirst, IsOfNone}
use Rattle.arch_links.specs.Links.{AreLinked, IsUnlinked}
use Rattle.arch_links.specs.Laws.{TellsLink}

first_of_none : {X : Type 0} (P : X → Type 0) (xs : List X) (x : X) → IsFirst P xs x → IsOfNone P xs → ⊥
first_of_none P [] x first none = first
first_of_none P (y ∷ ys) x (inl is) none = none.0 is.1
first_of_none P (y ∷ ys) x (inr is) none = first_of_none P ys x is.1 none.1

pub linked_or_not : (root : Elem) (a : ArchParts) (error : LinkError) → AreLinked root a → TellsLink error → IsUnlinked root a error → ⊥
linked_or_not root a (SitePorts tile site) linked tells is = first_of_none _ _ is.s is.first linked.ports
linked_or_not root a (NoSuchBlock name) linked tells is = first_of_none _ _ name is.1 linked.blocks
linked_or_not root a (UnknownModel name) linked tells is = first_of_none _ _ name is.2 linked.models
linked_or_not root a OutOfMemory linked tells is = tells
