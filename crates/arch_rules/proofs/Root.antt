-- The root of a file.
use Rattle.std.proofs.Common.{◌≡◌, ℕ, Bool, true, false, if◌then◌else◌, List, [], ◌∷◌, Result, Ok, Err, OnOk, IfErr, refl, sym, subst, codes}
use Rattle.std.specs.Result.{IsErrAnd}
use Rattle.std.specs.Str.{bytes_eq}
use Rattle.elem_text.specs.declared.elem.Elem.{Elem}
use Rattle.arch_rules.specs.declared.error.RuleError.{RuleError}
use Rattle.arch_rules.specs.declared.role.Role.{Role}
use Rattle.arch_rules.specs.declared.role.Role.TheVariants.{File, Architecture, Models, Tiles, Blocks, Foreign}
use Rattle.arch_rules.specs.Elements.{name_of, kids_of}
use Rattle.arch_rules.specs.Roles.{role_in}
use Rattle.arch_rules.specs.Rules.{Inside, role_at, IsUnsupported}
use Rattle.arch_rules.specs.Walks.{the_file, inside, cousins, AreFine, none, more, FirstBreaks, here, deeper, IsFineAt, RefusesAt, Judges, IsFineFile, BreaksFirst}
use Rattle.arch_rules.proofs.Passed.{told, told_on}

cousins_none : (r : Role) → cousins r [] ≡ []
cousins_none Models = refl
cousins_none Tiles = refl
cousins_none Blocks = refl
cousins_none _ = refl

-- the root breaks a rule itself
pub root_here : {X : Type 0} (r : Result X RuleError) (root : Elem) (error : RuleError) → IsErrAnd r (λ x. x ≡ error) → RefusesAt the_file [] root error →
    IfErr r (λ e. BreaksFirst root e)
root_here (Ok x) root error is refuses = absurd is
root_here (Err x) root error is refuses =
    subst (λ e. BreaksFirst root e) (sym is) (told error (FirstBreaks error the_file [] (root ∷ [])) (here the_file [] root [] refuses))

deep_place : (root : Elem) (inner : Inside) → inner ≡ inside the_file root → AreFine inner [] (kids_of root) →
    AreFine (inside the_file root) (cousins (role_at the_file root) []) (kids_of root)
deep_place root inner same fine =
    subst (λ b. AreFine (inside the_file root) b (kids_of root)) (sym (cousins_none (role_at the_file root))) (subst (λ w. AreFine w [] (kids_of root)) same fine)

deep_breaks : (root : Elem) (inner : Inside) (error : RuleError) → inner ≡ inside the_file root → FirstBreaks error inner [] (kids_of root) →
    FirstBreaks error (inside the_file root) (cousins (role_at the_file root) []) (kids_of root)
deep_breaks root inner error same breaks =
    subst (λ b. FirstBreaks error (inside the_file root) b (kids_of root)) (sym (cousins_none (role_at the_file root)))
    (subst (λ w. FirstBreaks error w [] (kids_of root)) same breaks)

pub root_fine : {X : Type 0} (r : Result X RuleError) (root : Elem) (inner : Inside) → inner ≡ inside the_file root → IsFineAt the_file [] root →
    Judges r inner [] (kids_of root) → OnOk r (IsFineFile root)
root_fine (Ok x) root inner same own deep = more the_file [] root [] own (deep_place root inner same deep) (none the_file (root ∷ []))
root_fine (Err x) root inner same own deep = tt

pub root_breaks : {X : Type 0} (r : Result X RuleError) (root : Elem) (inner : Inside) → inner ≡ inside the_file root → IsFineAt the_file [] root →
    Judges r inner [] (kids_of root) → IfErr r (λ e. BreaksFirst root e)
root_breaks (Ok x) root inner same own deep = tt
root_breaks (Err x) root inner same own deep =
    told_on x (FirstBreaks x inner [] (kids_of root)) (FirstBreaks x the_file [] (root ∷ [])) (λ breaks. deeper the_file [] root [] own (deep_breaks root inner x same breaks)) deep

pick : (b0 b1 : Bool) → ((if b0 then Foreign else if b1 then Architecture else Foreign) ≡ Architecture → ⊥) →
    (if b0 then Foreign else if b1 then Architecture else Foreign) ≡ Foreign
pick true b1 other = refl
pick false true other = absurd (other refl)
pick false false other = refl

foreign : (n : List ℕ) → (role_in File n ≡ Architecture → ⊥) → role_in File n ≡ Foreign
foreign n other = pick (bytes_eq n (codes "xi:include")) (bytes_eq n (codes "architecture")) other

-- another root breaks a rule
pub other_root : (root : Elem) → (role_at the_file root ≡ Architecture → ⊥) → IsFineAt the_file [] root → ⊥
other_root root other fine = fine.0.1 (unsupported (role_at the_file root) (foreign (name_of root) other)) where
  unsupported : (r : Role) → r ≡ Foreign → IsUnsupported r root
  unsupported r is = subst (λ q. IsUnsupported q root) (sym is) tt
