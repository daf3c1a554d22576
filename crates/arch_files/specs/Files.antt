-- What the bytes of an architecture file say, and the first rule that they break.
use Rattle.std.specs.Prelude.{◌≡◌, ℕ, List}
use Rattle.arch_types.specs.declared.arch.Arch.{Arch}
use Rattle.elem_text.specs.declared.elem.Elem.{Elem}
use Rattle.elem_text.specs.declared.error.ElemError.{ElemError}
use Rattle.elem_text.specs.declared.error.ElemError.TheVariants as elem
use Rattle.elem_text.specs.Grammar.{Spells}
use Rattle.elem_text.specs.Refusals.{Refuses, IsTooDeep}
use Rattle.arch_rules.specs.declared.error.RuleError.{RuleError}
use Rattle.arch_rules.specs.declared.error.RuleError.TheVariants as rule
use Rattle.arch_rules.specs.Walks.{IsFineFile, BreaksFirst}
use Rattle.arch_build.specs.Said.{said_arch}
use Rattle.arch_links.specs.declared.error.LinkError.{LinkError}
use Rattle.arch_links.specs.declared.error.LinkError.TheVariants as link
use Rattle.arch_links.specs.Links.{AreLinked, IsUnlinked}
use Rattle.arch_files.specs.declared.error.ArchError.{ArchError}
use Rattle.arch_files.specs.declared.error.ArchError.TheVariants.{Broken, Deep, NotUtf8, UnknownElement, MissingAttr, BadNumber, SameName, Unsupported, Limit, SitePorts, NoSuchBlock, UnknownModel, OutOfMemory}

-- the bytes spell an element that is nested at most 64 deep and breaks no rule, and this is what it
-- says
pub record SpellsArch (bytes : List ℕ) (a : Arch) : Type 0 where
  pub root : Elem
  pub spells : Spells bytes root
  pub shallow : IsTooDeep bytes → ⊥
  pub fine : IsFineFile root
  pub says : a ≡ said_arch root
  pub linked : AreLinked root a

-- the bytes spell an element, and the error tells the first rule on elements that it breaks
pub record BreaksRule (bytes : List ℕ) (e : RuleError) : Type 0 where
  pub root : Elem
  pub spells : Spells bytes root
  pub breaks : BreaksFirst root e

-- the element breaks no such rule, and the error tells the first of the rules that tie its parts
-- together which doesn't hold
pub record BreaksLink (bytes : List ℕ) (e : LinkError) : Type 0 where
  pub root : Elem
  pub spells : Spells bytes root
  pub fine : IsFineFile root
  pub unlinked : IsUnlinked root (said_arch root) e

-- the error tells the first rule that the bytes break; want of memory may come at any file
abbrev pub IsRefused : List ℕ → ArchError → Type 0
IsRefused bytes (Broken place) = Refuses bytes (elem.Broken place)
IsRefused bytes Deep = Refuses bytes elem.Deep
IsRefused bytes NotUtf8 = Refuses bytes elem.NotUtf8
IsRefused bytes (UnknownElement name place) = BreaksRule bytes (rule.UnknownElement name place)
IsRefused bytes (MissingAttr name place) = BreaksRule bytes (rule.MissingAttr name place)
IsRefused bytes (BadNumber place) = BreaksRule bytes (rule.BadNumber place)
IsRefused bytes (SameName name place) = BreaksRule bytes (rule.SameName name place)
IsRefused bytes (Unsupported what place) = BreaksRule bytes (rule.Unsupported what place)
IsRefused bytes (Limit which place) = BreaksRule bytes (rule.Limit which place)
IsRefused bytes (SitePorts tile site) = BreaksLink bytes (link.SitePorts tile site)
IsRefused bytes (NoSuchBlock name) = BreaksLink bytes (link.NoSuchBlock name)
IsRefused bytes (UnknownModel name) = BreaksLink bytes (link.UnknownModel name)
IsRefused bytes OutOfMemory = Unit {0}

-- the error of the whole way for an error of one of its parts
abbrev pub error_of_elem : ElemError → ArchError
error_of_elem elem.NotUtf8 = NotUtf8
error_of_elem elem.Deep = Deep
error_of_elem (elem.Broken place) = Broken place
error_of_elem elem.OutOfMemory = OutOfMemory

abbrev pub error_of_rule : RuleError → ArchError
error_of_rule (rule.UnknownElement name place) = UnknownElement name place
error_of_rule (rule.MissingAttr name place) = MissingAttr name place
error_of_rule (rule.BadNumber place) = BadNumber place
error_of_rule (rule.SameName name place) = SameName name place
error_of_rule (rule.Unsupported what place) = Unsupported what place
error_of_rule (rule.Limit which place) = Limit which place
error_of_rule rule.OutOfMemory = OutOfMemory

abbrev pub error_of_link : LinkError → ArchError
error_of_link (link.SitePorts tile site) = SitePorts tile site
error_of_link (link.NoSuchBlock name) = NoSuchBlock name
error_of_link (link.UnknownModel name) = UnknownModel name
error_of_link link.OutOfMemory = OutOfMemory
