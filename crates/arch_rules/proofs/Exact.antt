-- No file breaks no rule and has a first one that it breaks.
use Rattle.std.proofs.Common.{List, [], ◌∷◌}
use Rattle.elem_text.specs.declared.elem.Elem.{Elem}
use Rattle.arch_rules.specs.declared.error.RuleError.{RuleError}
use Rattle.arch_rules.specs.declared.error.RuleError.TheVariants.{UnknownElement, MissingAttr, BadNumber, SameName, Unsupported, Limit, OutOfMemory}
use Rattle.arch_rules.specs.declared.role.Role.{Role}
use Rattle.arch_rules.specs.Rules.{Inside, role_at, IsTaken}
use Rattle.arch_rules.specs.Walks.{AreFine, more, FirstBreaks, here, deeper, later, IsFine, Refuses, IsFineFile, BreaksFirst, the_file}
use Rattle.arch_rules.specs.Laws.{TellsRule}

fine_refuses : (r : Role) (T : Type 0) (e : Elem) (error : RuleError) → IsFine r T e → TellsRule error → Refuses r T e error → ⊥
fine_refuses r T e (UnknownElement name place) fine tells is = fine.0.0.0.0.0 is.2
fine_refuses r T e (MissingAttr name place) fine tells is = fine.0.0.0.0.1 name is.2
fine_refuses r T e (BadNumber place) fine tells is = fine.0.0.0.1 is.2
fine_refuses r T e (SameName name place) fine tells is = fine.0.0.1 is.3
fine_refuses r T e (Unsupported what place) fine tells is = fine.0.1 is.3
fine_refuses r T e (Limit which place) fine tells is = fine.1 which is.2
fine_refuses r T e OutOfMemory fine tells is = tells

fine_breaks : (error : RuleError) → TellsRule error → (at : Inside) (before es : List Elem) → FirstBreaks error at before es → AreFine at before es → ⊥
fine_breaks error tells _ _ _ (here at before e rest is) (more _ _ _ _ own deep others) = fine_refuses (role_at at e) (IsTaken at before e) e error own tells is
fine_breaks error tells _ _ _ (deeper at before e rest own' breaks) (more _ _ _ _ own deep others) = fine_breaks error tells _ _ _ breaks deep
fine_breaks error tells _ _ _ (later at before e rest own' deep' breaks) (more _ _ _ _ own deep others) = fine_breaks error tells _ _ _ breaks others

breaks_of : (root : Elem) (error : RuleError) → TellsRule error → BreaksFirst root error → FirstBreaks error the_file [] (root ∷ [])
breaks_of root (UnknownElement name place) tells is = is
breaks_of root (MissingAttr name place) tells is = is
breaks_of root (BadNumber place) tells is = is
breaks_of root (SameName name place) tells is = is
breaks_of root (Unsupported what place) tells is = is
breaks_of root (Limit which place) tells is = is
breaks_of root OutOfMemory tells is = absurd tells

pub fine_or_broken : (root : Elem) (error : RuleError) → IsFineFile root → TellsRule error → BreaksFirst root error → ⊥
fine_or_broken root error fine tells is = fine_breaks error tells _ _ _ (breaks_of root error tells is) fine
