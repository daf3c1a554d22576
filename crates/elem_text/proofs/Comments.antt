-- The first end of a comment and of an instruction.
use Rattle.std.proofs.Common.{◌≡◌, ℕ, zero, suc, ◌<◌, ◌≤◌, ◌+◌, Bool, true, false, cond, List, [], ◌∷◌, ◌++◌, length, drop, get_or, refl, ap, ◌∙◌, arith, Some, None, eqb, ◌&&◌}
use Rattle.std.proofs.lemmas.Bool.{and_parts}
use Rattle.std.proofs.lemmas.Bool.Decides.{nat_tests}
use Rattle.elem_text.specs.Grammar.{behind_comment, behind_instruction}

comment_at : (bs : List ℕ) (n : ℕ) → n + 2 < length bs →
    behind_comment (drop n bs) ≡ cond (eqb (get_or bs (suc (suc n)) 0) 62 && (eqb (get_or bs (suc n) 0) 45 && eqb (get_or bs n 0) 45)) (Some (drop (suc (suc (suc n))) bs)) (behind_comment (drop (suc n) bs))
comment_at [] n h = absurd (omega arith)
comment_at (a ∷ []) n h = absurd (omega arith)
comment_at (a ∷ b ∷ []) n h = absurd (omega arith)
comment_at (a ∷ b ∷ c ∷ bs) zero h = refl
comment_at (a ∷ b ∷ c ∷ bs) (suc n) h = comment_at (b ∷ c ∷ bs) n (omega arith)

same_test : (bs : List ℕ) (n m k : ℕ) → m ≡ suc n → k ≡ suc (suc n) → (j : ℕ) → j ≡ suc (suc (suc n)) →
    cond (eqb (get_or bs (suc (suc n)) 0) 62 && (eqb (get_or bs (suc n) 0) 45 && eqb (get_or bs n 0) 45)) (Some (drop (suc (suc (suc n))) bs)) (behind_comment (drop (suc n) bs))
    ≡ cond (eqb (get_or bs k 0) 62 && (eqb (get_or bs m 0) 45 && eqb (get_or bs n 0) 45)) (Some (drop j bs)) (behind_comment (drop m bs))
same_test bs n m k e f j g = rw (e, f, g) refl

pub comment_step : (bs : List ℕ) (n : ℕ) → n + 2 < length bs →
    behind_comment (drop n bs) ≡ cond (eqb (get_or bs (n + 2) 0) 62 && (eqb (get_or bs (n + 1) 0) 45 && eqb (get_or bs n 0) 45)) (Some (drop (n + 3) bs)) (behind_comment (drop (n + 1) bs))
comment_step bs n h = comment_at bs n h ∙ same_test bs n (n + 1) (n + 2) (omega arith) (omega arith) (n + 3) (omega arith)

pub comment_end : (bs : List ℕ) (n : ℕ) → length bs ≤ n + 2 → behind_comment (drop n bs) ≡ None
comment_end [] zero h = refl
comment_end [] (suc n) h = refl
comment_end (a ∷ []) zero h = refl
comment_end (a ∷ b ∷ []) zero h = refl
comment_end (a ∷ b ∷ c ∷ bs) zero h = absurd (omega arith)
comment_end (a ∷ bs) (suc n) h = comment_end bs n (omega arith)

instruction_at : (bs : List ℕ) (n : ℕ) → n + 1 < length bs →
    behind_instruction (drop n bs) ≡ cond (eqb (get_or bs (suc n) 0) 62 && eqb (get_or bs n 0) 63) (Some (drop (suc (suc n)) bs)) (behind_instruction (drop (suc n) bs))
instruction_at [] n h = absurd (omega arith)
instruction_at (a ∷ []) n h = absurd (omega arith)
instruction_at (a ∷ b ∷ bs) zero h = refl
instruction_at (a ∷ b ∷ bs) (suc n) h = instruction_at (b ∷ bs) n (omega arith)

same_test2 : (bs : List ℕ) (n m k : ℕ) → m ≡ suc n → k ≡ suc (suc n) →
    cond (eqb (get_or bs (suc n) 0) 62 && eqb (get_or bs n 0) 63) (Some (drop (suc (suc n)) bs)) (behind_instruction (drop (suc n) bs))
    ≡ cond (eqb (get_or bs m 0) 62 && eqb (get_or bs n 0) 63) (Some (drop k bs)) (behind_instruction (drop m bs))
same_test2 bs n m k e f = rw (e, f) refl

pub instruction_step : (bs : List ℕ) (n : ℕ) → n + 1 < length bs →
    behind_instruction (drop n bs) ≡ cond (eqb (get_or bs (n + 1) 0) 62 && eqb (get_or bs n 0) 63) (Some (drop (n + 2) bs)) (behind_instruction (drop (n + 1) bs))
instruction_step bs n h = instruction_at bs n h ∙ same_test2 bs n (n + 1) (n + 2) (omega arith) (omega arith)

pub instruction_end : (bs : List ℕ) (n : ℕ) → length bs ≤ n + 1 → behind_instruction (drop n bs) ≡ None
instruction_end [] zero h = refl
instruction_end [] (suc n) h = refl
instruction_end (a ∷ []) zero h = refl
instruction_end (a ∷ b ∷ bs) zero h = absurd (omega arith)
instruction_end (a ∷ bs) (suc n) h = instruction_end bs n (omega arith)

-- what follows the end follows its '>'
pub comment_ends : (bs rest : List ℕ) → behind_comment bs ≡ Some rest → (front : List ℕ) × (bs ≡ front ++ 62 ∷ rest)
comment_ends [] rest e = cc
comment_ends (a ∷ []) rest e = cc
comment_ends (a ∷ b ∷ []) rest e = cc
comment_ends (a ∷ b ∷ c ∷ bs) rest e = by_test (λ f. comment_ends (b ∷ c ∷ bs) rest f) (eqb c 62 && (eqb b 45 && eqb a 45)) refl e
  where
    is : (x : ℕ) (t : Bool) → (eqb x 62 && t) ≡ true → x ≡ 62
    is x t e = same x (and_parts (eqb x 62) t e).0
      where
        same : (x : ℕ) → eqb x 62 ≡ true → x ≡ 62
        same x e = grind (arith, nat_tests)

    by_test : (behind_comment (b ∷ c ∷ bs) ≡ Some rest → (front : List ℕ) × (b ∷ c ∷ bs ≡ front ++ 62 ∷ rest)) →
        (t : Bool) → (eqb c 62 && (eqb b 45 && eqb a 45)) ≡ t → cond t (Some bs) (behind_comment (b ∷ c ∷ bs)) ≡ Some rest → (front : List ℕ) × (a ∷ b ∷ c ∷ bs ≡ front ++ 62 ∷ rest)
    by_test on true t e = (a ∷ b ∷ [], let f : c ≡ 62 = is c (eqb b 45 && eqb a 45) t in cc)
    by_test on false t e = let r = on e in (a ∷ r.0, ap (λ l. a ∷ l) r.1)

pub instruction_ends : (bs rest : List ℕ) → behind_instruction bs ≡ Some rest → (front : List ℕ) × (bs ≡ front ++ 62 ∷ rest)
instruction_ends [] rest e = cc
instruction_ends (a ∷ []) rest e = cc
instruction_ends (a ∷ b ∷ bs) rest e = by_test (λ f. instruction_ends (b ∷ bs) rest f) (eqb b 62 && eqb a 63) refl e
  where
    is : (x : ℕ) (t : Bool) → (eqb x 62 && t) ≡ true → x ≡ 62
    is x t e = same x (and_parts (eqb x 62) t e).0
      where
        same : (x : ℕ) → eqb x 62 ≡ true → x ≡ 62
        same x e = grind (arith, nat_tests)

    by_test : (behind_instruction (b ∷ bs) ≡ Some rest → (front : List ℕ) × (b ∷ bs ≡ front ++ 62 ∷ rest)) →
        (t : Bool) → (eqb b 62 && eqb a 63) ≡ t → cond t (Some bs) (behind_instruction (b ∷ bs)) ≡ Some rest → (front : List ℕ) × (a ∷ b ∷ bs ≡ front ++ 62 ∷ rest)
    by_test on true t e = (a ∷ [], let f : b ≡ 62 = is b (eqb a 63) t in cc)
    by_test on false t e = let r = on e in (a ∷ r.0, ap (λ l. a ∷ l) r.1)
