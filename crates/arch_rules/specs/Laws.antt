-- What the answers of the rules rest on: a file either breaks no rule or has a first one that it
-- breaks.
use Rattle.elem_text.specs.declared.elem.Elem.{Elem}
use Rattle.arch_rules.specs.declared.error.RuleError.{RuleError}
use Rattle.arch_rules.specs.declared.error.RuleError.TheVariants.{OutOfMemory}
use Rattle.arch_rules.specs.Walks.{IsFineFile, BreaksFirst}

-- the error tells a rule
abbrev pub TellsRule : RuleError → Type 0
TellsRule OutOfMemory = ⊥
TellsRule _ = Unit {0}

abbrev pub IsFineOrBroken : Type 0
IsFineOrBroken = (root : Elem) (error : RuleError) → IsFineFile root → TellsRule error → BreaksFirst root error → ⊥
