-- A file says one architecture, or breaks a rule.
use Rattle.std.proofs.Common.{◌≡◌, ℕ, List, refl, sym, ap, ◌∙◌, subst}
use Rattle.arch_types.specs.declared.arch.Arch.{Arch}
use Rattle.elem_text.specs.declared.elem.Elem.{Elem}
use Rattle.elem_text.proofs.OneAnswer.{one_element, breaks_or_spelled}
use Rattle.arch_rules.specs.declared.error.RuleError.{RuleError}
use Rattle.arch_rules.specs.declared.error.RuleError.TheVariants as rule
use Rattle.arch_rules.specs.Laws.{TellsRule}
use Rattle.arch_rules.specs.Walks.{BreaksFirst}
use Rattle.arch_rules.proofs.Exact.{fine_or_broken}
use Rattle.arch_build.specs.Said.{said_arch}
use Rattle.arch_links.specs.declared.error.LinkError.{LinkError}
use Rattle.arch_links.specs.declared.error.LinkError.TheVariants as link
use Rattle.arch_links.specs.Laws.{TellsLink}
use Rattle.arch_links.specs.Links.{AreLinked, IsUnlinked}
use Rattle.arch_links.proofs.Exact.{linked_or_not}
use Rattle.arch_files.specs.declared.error.ArchError.{ArchError}
use Rattle.arch_files.specs.declared.error.ArchError.TheVariants.{Broken, Deep, NotUtf8, UnknownElement, MissingAttr, BadNumber, SameName, Unsupported, Limit, SitePorts, NoSuchBlock, UnknownModel, OutOfMemory}
use Rattle.arch_files.specs.Files.{SpellsArch, BreaksRule, BreaksLink, IsRefused}

pub one_arch : (bytes : List ℕ) (a b : Arch) → SpellsArch bytes a → SpellsArch bytes b → a ≡ b
one_arch bytes a b s t = s.says ∙ (ap said_arch (one_element bytes s.root t.root s.spells t.spells) ∙ sym t.says)

no_rule : (bytes : List ℕ) (a : Arch) (e : RuleError) → SpellsArch bytes a → TellsRule e → BreaksRule bytes e → ⊥
no_rule bytes a e s tells broken =
    fine_or_broken s.root e s.fine tells (subst (λ r. BreaksFirst r e) (one_element bytes broken.root s.root broken.spells s.spells) broken.breaks)

no_link : (bytes : List ℕ) (a : Arch) (e : LinkError) → SpellsArch bytes a → TellsLink e → BreaksLink bytes e → ⊥
no_link bytes a e s tells broken =
    let same = one_element bytes broken.root s.root broken.spells s.spells in
    let unlinked : IsUnlinked s.root (said_arch s.root) e = subst (λ r. IsUnlinked r (said_arch r) e) same broken.unlinked in
    linked_or_not s.root (said_arch s.root) e (subst (λ x. AreLinked s.root x) s.says s.linked) tells unlinked

pub is_read : (bytes : List ℕ) (a : Arch) (e : ArchError) → SpellsArch bytes a → IsRefused bytes e → e ≡ OutOfMemory
is_read bytes a (Broken place) s is = absurd (breaks_or_spelled bytes place s.root is.1 s.spells)
is_read bytes a Deep s is = absurd (s.shallow is.1)
is_read bytes a NotUtf8 s is = absurd (is s.spells.utf8)
is_read bytes a (UnknownElement name place) s is = absurd (no_rule bytes a (rule.UnknownElement name place) s tt is)
is_read bytes a (MissingAttr name place) s is = absurd (no_rule bytes a (rule.MissingAttr name place) s tt is)
is_read bytes a (BadNumber place) s is = absurd (no_rule bytes a (rule.BadNumber place) s tt is)
is_read bytes a (SameName name place) s is = absurd (no_rule bytes a (rule.SameName name place) s tt is)
is_read bytes a (Unsupported what place) s is = absurd (no_rule bytes a (rule.Unsupported what place) s tt is)
is_read bytes a (Limit which place) s is = absurd (no_rule bytes a (rule.Limit which place) s tt is)
is_read bytes a (SitePorts tile site) s is = absurd (no_link bytes a (link.SitePorts tile site) s tt is)
is_read bytes a (NoSuchBlock name) s is = absurd (no_link bytes a (link.NoSuchBlock name) s tt is)
is_read bytes a (UnknownModel name) s is = absurd (no_link bytes a (link.UnknownModel name) s tt is)
is_read bytes a OutOfMemory s is = refl
