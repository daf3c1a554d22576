-- What the answers of the rules rest on: the parts of a file are tied together, or there is a first
-- place at which they aren't.
use Rattle.elem_text.specs.declared.elem.Elem.{Elem}
use Rattle.arch_types.specs.declared.arch.ArchParts.{ArchParts}
use Rattle.arch_links.specs.declared.error.LinkError.{LinkError}
use Rattle.arch_links.specs.declared.error.LinkError.TheVariants.{OutOfMemory}
use Rattle.arch_links.specs.Links.{AreLinked, IsUnlinked}

-- the error tells a rule
abbrev pub TellsLink : LinkError → Type 0
TellsLink OutOfMemory = ⊥
TellsLink _ = Unit {0}

abbrev pub AreLinkedOrNot : Type 0
AreLinkedOrNot = (root : Elem) (a : ArchParts) (error : LinkError) → AreLinked root a → TellsLink error → IsUnlinked root a error → ⊥
