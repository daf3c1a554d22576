-- A feature's name is read part by part.
use Rattle.std.proofs.Common.{◌≡◌, ◌==◌, ◌<◌, ℕ, Bool, true, false, not, List, [], ◌∷◌, refl, sym, ap, ◌∙◌, subst, arith}
use Rattle.std.specs.List.{All, slice_split}
use Rattle.std.proofs.lemmas.List.Elements.{All-head, All-tail, All-cons}
use Rattle.std.proofs.lemmas.List.Splits.{slice_split_none, slice_split_at}
use Rattle.vtr_base.specs.Spans.{Lacks, IsCut}
use Rattle.fasm_text.specs.Names.{IsNamePart, IsFeatureName}

abbrev is_dot : ℕ → Bool
is_dot b = b == 46

undotted : (text : List ℕ) → Lacks text 46 → All (λ b. is_dot b ≡ false) text
undotted text lacks = λ k d within. fails (_ == 46) (lacks k d within)
  where
    fails : (b : Bool) → not b ≡ true → b ≡ false
    fails true e = cc
    fails false e = refl

-- what is left of a text is a name exactly where the whole text is
pub record IsNameWith (text rest : List ℕ) : Type 0 where
  pub on : IsFeatureName rest → IsFeatureName text
  pub back : IsFeatureName text → IsFeatureName rest

pub names_start : (text : List ℕ) → IsNameWith text text
names_start text = record { on = λ n. n; back = λ n. n }

split_cut : (text part rest : List ℕ) → IsCut text 46 part rest → slice_split is_dot text ≡ part ∷ slice_split is_dot rest
split_cut text part rest cut = ap (slice_split is_dot) cut.spelled ∙ slice_split_at is_dot part 46 rest (undotted part cut.lacks) refl

pub first_part : (text part rest : List ℕ) → IsCut text 46 part rest → IsFeatureName text → IsNamePart part
first_part text part rest cut name =
    All-head IsNamePart part (slice_split is_dot rest) (subst (All IsNamePart) (split_cut text part rest cut) name)

pub names_go_on : (whole text part rest : List ℕ) → IsCut text 46 part rest → IsNamePart part → IsNameWith whole text → IsNameWith whole rest
names_go_on whole text part rest cut is w = record {
  on = λ n. w.on (subst (All IsNamePart) (sym (split_cut text part rest cut)) (All-cons IsNamePart part (slice_split is_dot rest) is n));
  back = λ n. All-tail IsNamePart part (slice_split is_dot rest) (subst (All IsNamePart) (split_cut text part rest cut) (w.back n));
}

pub last_part : (text : List ℕ) → Lacks text 46 → IsNamePart text → IsFeatureName text
last_part text lacks is =
    subst (All IsNamePart) (sym (slice_split_none is_dot text (undotted text lacks))) (All-cons IsNamePart text [] is (λ k d within. absurd (nothing k within)))
  where
    nothing : (k : ℕ) → k < 0 → ⊥
    nothing k h = omega arith

pub only_part : (text : List ℕ) → Lacks text 46 → IsFeatureName text → IsNamePart text
only_part text lacks name =
    All-head IsNamePart text [] (subst (All IsNamePart) (slice_split_none is_dot text (undotted text lacks)) name)
