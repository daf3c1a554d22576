-- The errors of the parts, as errors of the whole way.
use Rattle.std.proofs.Common.{◌≡◌, ℕ, List, sym, subst}
use Rattle.std.specs.Prelude.{Result, IfErr, IsErrOf}
use Rattle.std.proofs.lemmas.Result.{err_from_is_err_and}
use Rattle.arch_types.specs.declared.arch.Arch.{Arch}
use Rattle.elem_text.specs.declared.elem.Elem.{Elem}
use Rattle.elem_text.specs.Grammar.{Spells}
use Rattle.arch_rules.specs.declared.error.RuleError.{RuleError}
use Rattle.arch_rules.specs.declared.error.RuleError.TheVariants as rule
use Rattle.arch_rules.specs.Walks.{IsFineFile, BreaksFirst}
use Rattle.arch_build.specs.Said.{said_arch}
use Rattle.arch_links.specs.declared.error.LinkError.{LinkError}
use Rattle.arch_links.specs.declared.error.LinkError.TheVariants as link
use Rattle.arch_links.specs.Links.{IsUnlinked}
use Rattle.arch_files.specs.Files.{IsRefused, error_of_rule, error_of_link}

pub rule_refused : (bytes : List ℕ) (root : Elem) (e : RuleError) → Spells bytes root → BreaksFirst root e → IsRefused bytes (error_of_rule e)
rule_refused bytes root (rule.UnknownElement name place) spells breaks = record { root = root; spells = spells; breaks = breaks }
rule_refused bytes root (rule.MissingAttr name place) spells breaks = record { root = root; spells = spells; breaks = breaks }
rule_refused bytes root (rule.BadNumber place) spells breaks = record { root = root; spells = spells; breaks = breaks }
rule_refused bytes root (rule.SameName name place) spells breaks = record { root = root; spells = spells; breaks = breaks }
rule_refused bytes root (rule.Unsupported what place) spells breaks = record { root = root; spells = spells; breaks = breaks }
rule_refused bytes root (rule.Limit which place) spells breaks = record { root = root; spells = spells; breaks = breaks }
rule_refused bytes root rule.OutOfMemory spells breaks = tt

pub link_refused : (bytes : List ℕ) (root : Elem) (a : Arch) (e : LinkError) → Spells bytes root → IsFineFile root → a ≡ said_arch root → IsUnlinked root a e →
    IsRefused bytes (error_of_link e)
link_refused bytes root a e spells fine says unlinked = by_cause e (subst (λ x. IsUnlinked root x e) says unlinked)
  where
    by_cause : (e : LinkError) → IsUnlinked root (said_arch root) e → IsRefused bytes (error_of_link e)
    by_cause (link.SitePorts tile site) is = record { root = root; spells = spells; fine = fine; unlinked = is }
    by_cause (link.NoSuchBlock name) is = record { root = root; spells = spells; fine = fine; unlinked = is }
    by_cause (link.UnknownModel name) is = record { root = root; spells = spells; fine = fine; unlinked = is }
    by_cause link.OutOfMemory is = tt
