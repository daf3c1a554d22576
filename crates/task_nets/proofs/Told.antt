-- Nets that were told one by one.
use Rattle.std.proofs.Common.{◌≡◌, ◌<◌, ◌≤◌, ◌+◌, ◌⊎◌, ℕ, List, [], ◌∷◌, ◌++◌, length, take, get_or, refl, sym, ap, ◌∙◌, subst, inl, inr}
use Rattle.std.proofs.lemmas.List.{take_more, take_all, map-append}
use Rattle.vtr_base.specs.Lists.{Has}
use Rattle.list_laws.proofs.Members.{has_pushed}
use Rattle.task_types.specs.declared.task.TaskNet.{TaskNet}
use Rattle.task_types.specs.Nets.{NetSaid}
use Rattle.task_rules.specs.Joined.{IsNetOf, numbers_of}

pub record AreTold (n : NetSaid) (atoms numbers : List ℕ) (all : List TaskNet) : Type 0 where
  pub numbers_are : numbers_of all ≡ numbers
  pub each : (of : TaskNet) → Has all of → IsNetOf n atoms of

pub none_told : (n : NetSaid) (atoms : List ℕ) → AreTold n atoms [] []
none_told n atoms = record { numbers_are = refl; each = λ of has. absurd has }

pub told_more : (n : NetSaid) (atoms numbers : List ℕ) (all more : List TaskNet) (i d : ℕ) (x : TaskNet) → i < length numbers → x.net ≡ get_or numbers i d → IsNetOf n atoms x →
    AreTold n atoms (take i numbers) all → more ≡ all ++ x ∷ [] → AreTold n atoms (take (i + 1) numbers) more
told_more n atoms numbers all more i d x low same is told e = record {
  numbers_are =
      ap numbers_of e ∙ map-append (λ (of : TaskNet). of.net) all (x ∷ []) ∙ ap (λ ms. ms ++ x.net ∷ []) told.numbers_are ∙ ap (λ m. take i numbers ++ m ∷ []) same ∙ sym (take_more numbers i d low);
  each = λ of has. by of (has_pushed all x of (subst (λ l. Has l of) e has));
}
  where
    by : (of : TaskNet) → Has all of ⊎ (of ≡ x) → IsNetOf n atoms of
    by of (inl has) = told.each of has
    by of (inr last) = subst (λ y. IsNetOf n atoms y) (sym last) is

pub told_all : (n : NetSaid) (atoms numbers : List ℕ) (all : List TaskNet) (i : ℕ) → length numbers ≤ i → AreTold n atoms (take i numbers) all → AreTold n atoms numbers all
told_all n atoms numbers all i past told = subst (λ l. AreTold n atoms l all) (take_all i numbers past) told
