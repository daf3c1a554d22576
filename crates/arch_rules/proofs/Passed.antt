-- Elements that were looked at one after the other.
use Rattle.std.proofs.Common.{◌≡◌, ◌+◌, ◌<◌, ◌≤◌, arith, ℕ, zero, suc, List, [], ◌∷◌, ◌++◌, Result, Ok, Err, length, take, drop, get_or, refl, sym, ◌∙◌, ap, subst, append_assoc, append-nil, drop-cons}
use Rattle.std.specs.Result.{IsErrAnd}
use Rattle.std.proofs.lemmas.List.{take_more}
use Rattle.elem_text.specs.declared.elem.Elem.{Elem}
use Rattle.arch_rules.specs.declared.error.RuleError.{RuleError}
use Rattle.arch_rules.specs.declared.error.RuleError.TheVariants.{UnknownElement, MissingAttr, BadNumber, SameName, Unsupported, Limit, OutOfMemory}
use Rattle.arch_rules.specs.declared.taken.Taken.{Taken}
use Rattle.arch_rules.specs.Elements.{kids_of}
use Rattle.arch_rules.specs.Rules.{Inside, role_at}
use Rattle.arch_rules.specs.Taken.{Knows}
use Rattle.arch_rules.specs.Walks.{inside, cousins, AreFine, none, more, FirstBreaks, here, deeper, later, UnlessMemory, IsFineAt, RefusesAt, Judges}

pub fine_append : (at : Inside) (before xs ys : List Elem) → AreFine at before xs → AreFine at (before ++ xs) ys → AreFine at before (xs ++ ys)
fine_append at before [] ys fine fine' = subst (λ b. AreFine at b ys) (append-nil before) fine'
fine_append at before (x ∷ xs) ys (more _ _ _ _ own deep rest) fine' =
    more at before x (xs ++ ys) own deep (fine_append at (before ++ x ∷ []) xs ys rest (subst (λ b. AreFine at b ys) (sym (append_assoc before (x ∷ []) xs)) fine'))

pub breaks_append : (error : RuleError) (at : Inside) (before xs ys : List Elem) → AreFine at before xs → FirstBreaks error at (before ++ xs) ys →
    FirstBreaks error at before (xs ++ ys)
breaks_append error at before [] ys fine breaks = subst (λ b. FirstBreaks error at b ys) (append-nil before) breaks
breaks_append error at before (x ∷ xs) ys (more _ _ _ _ own deep rest) breaks =
    later at before x (xs ++ ys) own deep
    (breaks_append error at (before ++ x ∷ []) xs ys rest (subst (λ b. FirstBreaks error at b ys) (sym (append_assoc before (x ∷ []) xs)) breaks))

pub told : (error : RuleError) (P : Type 0) → P → UnlessMemory error P
told (UnknownElement name place) P p = p
told (MissingAttr name place) P p = p
told (BadNumber place) P p = p
told (SameName name place) P p = p
told (Unsupported what place) P p = p
told (Limit which place) P p = p
told OutOfMemory P p = tt

pub told_on : (error : RuleError) (P Q : Type 0) → (P → Q) → UnlessMemory error P → UnlessMemory error Q
told_on (UnknownElement name place) P Q on p = on p
told_on (MissingAttr name place) P Q on p = on p
told_on (BadNumber place) P Q on p = on p
told_on (SameName name place) P Q on p = on p
told_on (Unsupported what place) P Q on p = on p
told_on (Limit which place) P Q on p = on p
told_on OutOfMemory P Q on p = tt

pub handed_on : (X : Type 0) (r : Result X RuleError) (error : RuleError) (at : Inside) (before kids : List Elem) → IsErrAnd r (λ x. x ≡ error) →
    UnlessMemory error (FirstBreaks error at before kids) → Judges r at before kids
handed_on X (Ok x) error at before kids is wrong = absurd is
handed_on X (Err x) error at before kids is wrong = subst (λ e. UnlessMemory e (FirstBreaks e at before kids)) (sym is) wrong

-- the first i of the elements are fine, and their names are met
abbrev pub Passed : Inside → Taken → Taken → List Elem → ℕ → Type 0
Passed at start now kids i = (before : List Elem) → Knows at start before → AreFine at before (take i kids) × Knows at now (before ++ take i kids)

take_none : (kids : List Elem) → take 0 kids ≡ []
take_none kids = refl

pub passed_none : (at : Inside) (start : Taken) (kids : List Elem) → Passed at start start kids 0
passed_none at start kids before knows = (none at before, subst (λ b. Knows at start b) (sym (append-nil before)) knows)

module _ (at : Inside) (before : List Elem) (now : Taken) (kids : List Elem) (i : ℕ) (kid : Elem) (within : i < length kids) (is : kid ≡ get_or kids i kid)
    (fine : AreFine at before (take i kids)) (met : Knows at now (before ++ take i kids)) where
  pub front : take (i + 1) kids ≡ take i kids ++ kid ∷ []
  front = take_more kids i kid within ∙ ap (λ x. take i kids ++ x ∷ []) (sym is)

  rest : drop i kids ≡ kid ∷ drop (suc i) kids
  rest = drop-cons kids i kid within ∙ ap (λ x. x ∷ drop (suc i) kids) (sym is)

  whole : take i kids ++ kid ∷ drop (suc i) kids ≡ kids
  whole = ap (λ l. take i kids ++ l) (sym rest) ∙ take_drop kids i where
    take_drop : (l : List Elem) (n : ℕ) → take n l ++ drop n l ≡ l
    take_drop l zero = refl
    take_drop [] (suc n) = refl
    take_drop (x ∷ l) (suc n) = ap (λ m. x ∷ m) (take_drop l n)

  pub fine_more : ((b : List Elem) → Knows at now b → IsFineAt at b kid) →
      AreFine (inside at kid) (cousins (role_at at kid) (before ++ take i kids)) (kids_of kid) → AreFine at before (take (i + 1) kids)
  fine_more own deep =
      let b : List Elem = before ++ take i kids in
      let one : AreFine at b (kid ∷ []) = more at b kid [] (own b met) deep (none at (b ++ kid ∷ [])) in
      let all : AreFine at before (take i kids ++ kid ∷ []) = fine_append at before (take i kids) (kid ∷ []) fine one in
      subst (λ l. AreFine at before l) (sym front) all

  pub met_more : (after : Taken) → ((b : List Elem) → Knows at now b → Knows at after (b ++ kid ∷ [])) → Knows at after (before ++ take (i + 1) kids)
  met_more after next =
      let more_met : Knows at after (before ++ (take i kids ++ kid ∷ [])) =
      subst (λ l. Knows at after l) (append_assoc before (take i kids) (kid ∷ [])) (next (before ++ take i kids) met) in
      subst (λ l. Knows at after (before ++ l)) (sym front) more_met

  -- the next element breaks a rule itself
  pub one_here : (error : RuleError) → ((b : List Elem) → Knows at now b → RefusesAt at b kid error) → UnlessMemory error (FirstBreaks error at before kids)
  one_here error refuses =
      let first : FirstBreaks error at (before ++ take i kids) (kid ∷ drop (suc i) kids) = here at (before ++ take i kids) kid (drop (suc i) kids) (refuses (before ++ take i kids) met) in
      told error (FirstBreaks error at before kids)
      (subst (λ l. FirstBreaks error at before l) whole (breaks_append error at before (take i kids) (kid ∷ drop (suc i) kids) fine first))

  -- or something in it does
  pub one_deeper : (error : RuleError) → ((b : List Elem) → Knows at now b → IsFineAt at b kid) →
      UnlessMemory error (FirstBreaks error (inside at kid) (cousins (role_at at kid) (before ++ take i kids)) (kids_of kid)) → UnlessMemory error (FirstBreaks error at before kids)
  one_deeper error own deep =
      told_on error (FirstBreaks error (inside at kid) (cousins (role_at at kid) (before ++ take i kids)) (kids_of kid)) (FirstBreaks error at before kids)
      (λ breaks. subst (λ l. FirstBreaks error at before l) whole (breaks_append error at before (take i kids) (kid ∷ drop (suc i) kids) fine
      (deeper at (before ++ take i kids) kid (drop (suc i) kids) (own (before ++ take i kids) met) breaks))) deep

module _ (at : Inside) (start now : Taken) (kids : List Elem) (i : ℕ) (kid : Elem) (within : i < length kids) (is : kid ≡ get_or kids i kid) (passed : Passed at start now kids i) where
  pub passed_more : (after : Taken) → ((before : List Elem) → Knows at now before → IsFineAt at before kid) →
      ((before : List Elem) → Knows at now before → Knows at after (before ++ kid ∷ [])) →
      ((before : List Elem) → Knows at start before → AreFine (inside at kid) (cousins (role_at at kid) (before ++ take i kids)) (kids_of kid)) →
      Passed at start after kids (i + 1)
  passed_more after own next deep before knows =
      let p = passed before knows in
      (fine_more at before now kids i kid within is p.0 p.1 own (deep before knows), met_more at before now kids i kid within is p.0 p.1 after next)

  pub breaks_here : (error : RuleError) → ((before : List Elem) → Knows at now before → RefusesAt at before kid error) →
      (before : List Elem) → Knows at start before → UnlessMemory error (FirstBreaks error at before kids)
  breaks_here error refuses before knows = let p = passed before knows in one_here at before now kids i kid within is p.0 p.1 error refuses

  pub breaks_deeper : (error : RuleError) → ((before : List Elem) → Knows at now before → IsFineAt at before kid) →
      ((before : List Elem) → Knows at start before →
      UnlessMemory error (FirstBreaks error (inside at kid) (cousins (role_at at kid) (before ++ take i kids)) (kids_of kid))) →
      (before : List Elem) → Knows at start before → UnlessMemory error (FirstBreaks error at before kids)
  breaks_deeper error own deep before knows =
      let p = passed before knows in one_deeper at before now kids i kid within is p.0 p.1 error own (deep before knows)

pub passed_all : (at : Inside) (start now : Taken) (kids elems : List Elem) (i : ℕ) → take i kids ≡ kids → kids ≡ elems → Passed at start now kids i →
    (before : List Elem) → Knows at start before → AreFine at before elems × Knows at now (before ++ elems)
passed_all at start now kids elems i whole same passed before knows =
    let p = passed before knows in
    (subst (λ l. AreFine at before l) (whole ∙ same) p.0, subst (λ l. Knows at now (before ++ l)) (whole ∙ same) p.1)

-- what is in an element, where no cousins of it stand before
pub alone : (at inner : Inside) (kid : Elem) (before : List Elem) → inner ≡ inside at kid → cousins (role_at at kid) before ≡ [] →
    AreFine inner [] (kids_of kid) → AreFine (inside at kid) (cousins (role_at at kid) before) (kids_of kid)
alone at inner kid before same none_before fine =
    subst (λ b. AreFine (inside at kid) b (kids_of kid)) (sym none_before) (subst (λ w. AreFine w [] (kids_of kid)) same fine)

pub breaks_alone : (error : RuleError) (at inner : Inside) (kid : Elem) (before : List Elem) → inner ≡ inside at kid → cousins (role_at at kid) before ≡ [] →
    UnlessMemory error (FirstBreaks error inner [] (kids_of kid)) → UnlessMemory error (FirstBreaks error (inside at kid) (cousins (role_at at kid) before) (kids_of kid))
breaks_alone error at inner kid before same none_before breaks =
    subst (λ b. UnlessMemory error (FirstBreaks error (inside at kid) b (kids_of kid))) (sym none_before)
    (subst (λ w. UnlessMemory error (FirstBreaks error w [] (kids_of kid))) same breaks)

-- the same of the list that the loop went over
pub breaks_of : (at : Inside) (kids elems : List Elem) → kids ≡ elems → (error : RuleError) (before : List Elem) →
    UnlessMemory error (FirstBreaks error at before kids) → UnlessMemory error (FirstBreaks error at before elems)
breaks_of at kids elems same error before breaks = subst (λ l. UnlessMemory error (FirstBreaks error at before l)) same breaks

pub take_whole : (kids : List Elem) (i : ℕ) → length kids ≤ i → take i kids ≡ kids
take_whole [] zero whole = refl
take_whole [] (suc i) whole = refl
take_whole (x ∷ kids) zero whole = absurd (omega arith)
take_whole (x ∷ kids) (suc i) whole = ap (λ l. x ∷ l) (take_whole kids i (omega arith))
