-- A text spells one list of atoms, or is refused in one way.
use Rattle.std.proofs.Common.{◌≡◌, ◌<◌, ◌≤◌, ◌⊎◌, ℕ, zero, suc, List, [], ◌∷◌, Some, length, map, slice_get, refl, sym, ap, ◌∙◌, subst, inl, inr, arith}
use Rattle.std.proofs.lemmas.Bool.{cases_lt}
use Rattle.std.proofs.lemmas.List.{length-map}
use Rattle.vtr_base.specs.Lists.{Has}
use Rattle.list_laws.specs.Orders.{Once}
use Rattle.list_laws.proofs.Members.{has_at}
use Rattle.list_laws.proofs.Onces.{once_at}
use Rattle.atom_lists.specs.declared.error.TaskError.{TaskError}
use Rattle.atom_lists.specs.declared.error.TaskError.TheVariants.{NoSuchAtom, Twice, TooManyAtoms, OutOfMemory}
use Rattle.atom_lists.specs.Lists.{SpellAtoms, Refuses, IsFresh, AreFineBefore, IsUnknown, IsAgain}

-- names of different atoms have one list of numbers
pub one_list : (known entries : List (List ℕ)) (xs ys : List ℕ) → Once known → map (λ (n : ℕ). slice_get known n) xs ≡ map (λ entry. Some entry) entries →
    map (λ (n : ℕ). slice_get known n) ys ≡ map (λ entry. Some entry) entries → xs ≡ ys
one_list known [] [] [] once is_xs is_ys = refl
one_list known [] (x ∷ xs) ys once is_xs is_ys = absurd (cc)
one_list known [] [] (y ∷ ys) once is_xs is_ys = absurd (cc)
one_list known (e ∷ es) [] ys once is_xs is_ys = absurd (cc)
one_list known (e ∷ es) (x ∷ xs) [] once is_xs is_ys = absurd (cc)
one_list known (e ∷ es) (x ∷ xs) (y ∷ ys) once is_xs is_ys =
    let at_x : slice_get known x ≡ Some e = cc in
    let at_y : slice_get known y ≡ Some e = cc in
    let same : x ≡ y = once_at known once x y e at_x at_y in
    let rest : xs ≡ ys = one_list known es xs ys once (cc) (cc) in
    cc

-- the number at a place is that of the atom that the entry names
pub record Numbered (known entries : List (List ℕ)) (numbers : List ℕ) (place : ℕ) (entry : List ℕ) : Type 0 where
  pub number : ℕ
  pub there : slice_get numbers place ≡ Some number
  pub is : slice_get known number ≡ Some entry

numbered : (known entries : List (List ℕ)) (numbers : List ℕ) (place : ℕ) (entry : List ℕ) →
    map (λ (n : ℕ). slice_get known n) numbers ≡ map (λ entry. Some entry) entries → slice_get entries place ≡ Some entry → Numbered known entries numbers place entry
numbered known [] numbers place entry named at = absurd (cc)
numbered known (e ∷ es) [] place entry named at = absurd (cc)
numbered known (e ∷ es) (n ∷ ns) zero entry named at = record { number = n; there = refl; is = cc }
numbered known (e ∷ es) (n ∷ ns) (suc place) entry named at =
    let r = numbered known es ns place entry (cc) at in record { number = r.number; there = r.there; is = r.is }

-- where the entries spell a list, none is wrong

same_length : (known entries : List (List ℕ)) (numbers : List ℕ) → SpellAtoms known entries numbers → length numbers ≡ length entries
same_length known entries numbers spells =
    sym (length-map numbers (λ (n : ℕ). slice_get known n)) ∙ ap length spells.named ∙ length-map entries (λ (e : List ℕ). Some e)

not_unknown : (known entries : List (List ℕ)) (numbers : List ℕ) (place : ℕ) → SpellAtoms known entries numbers → IsUnknown known entries place → ⊥
not_unknown known entries numbers place spells u =
    let r = numbered known entries numbers place u.entry spells.named u.there in u.unknown (has_at known r.number u.entry r.is)

not_again : (known entries : List (List ℕ)) (numbers : List ℕ) (place : ℕ) → Once known → SpellAtoms known entries numbers → IsAgain known entries place → ⊥
not_again known entries numbers place once spells a =
    let late = numbered known entries numbers place a.entry spells.named a.there in
    let early = numbered known entries numbers a.earlier a.entry spells.named a.same in
    let number : late.number ≡ early.number = once_at known once late.number early.number a.entry late.is early.is in
    let same : place ≡ a.earlier = once_at numbers spells.once place a.earlier late.number late.there (early.there ∙ ap (λ (n : ℕ). Some n) (sym number)) in
    absurd (omega (arith, a.is_earlier, same))

pub never_both : (known entries : List (List ℕ)) (numbers : List ℕ) (e : TaskError) → Once known → SpellAtoms known entries numbers → Refuses known entries e →
    e ≡ OutOfMemory
never_both known entries numbers (NoSuchAtom place) once spells u = absurd (not_unknown known entries numbers place spells u)
never_both known entries numbers (Twice place) once spells a = absurd (not_again known entries numbers place once spells a)
never_both known entries numbers TooManyAtoms once spells many = absurd (omega (arith, many, spells.few, same_length known entries numbers spells))
never_both known entries numbers OutOfMemory once spells u = refl

-- there is one first entry that is wrong

pub record IsWrong (known entries : List (List ℕ)) (place : ℕ) : Type 0 where
  pub before : AreFineBefore known entries place
  pub stale : IsFresh known entries place → ⊥

unknown_wrong : (known entries : List (List ℕ)) (place : ℕ) → IsUnknown known entries place → IsWrong known entries place
unknown_wrong known entries place u = record {
  before = u.before;
  stale = λ f. (let same : f.entry ≡ u.entry = same_entry entries place f.entry u.entry f.first.there u.there in u.unknown (subst (Has known) same f.is_known));
}
  where
    same_entry : (entries : List (List ℕ)) (place : ℕ) (a b : List ℕ) → slice_get entries place ≡ Some a → slice_get entries place ≡ Some b → a ≡ b
    same_entry entries place a b at_a at_b = cc

again_wrong : (known entries : List (List ℕ)) (place : ℕ) → IsAgain known entries place → IsWrong known entries place
again_wrong known entries place a = record {
  before = a.before;
  stale = λ f. f.first.first a.earlier a.is_earlier (same_entry a.earlier f.entry a.entry f.first.there a.there a.same);
}
  where
    same_entry : (k : ℕ) (b c : List ℕ) → slice_get entries place ≡ Some b → slice_get entries place ≡ Some c → slice_get entries k ≡ Some c →
        slice_get entries k ≡ Some b
    same_entry k b c at_b at_c at_k = cc

one_place : (known entries : List (List ℕ)) (i j : ℕ) → IsWrong known entries i → IsWrong known entries j → i ≡ j
one_place known entries i j wrong other = by (cases_lt i j) (cases_lt j i)
  where
    by : (i < j) ⊎ (j ≤ i) → (j < i) ⊎ (i ≤ j) → i ≡ j
    by (inl less) back = absurd (wrong.stale (other.before.fresh i less))
    by (inr more) (inl less) = absurd (other.stale (wrong.before.fresh j less))
    by (inr more) (inr fewer) = omega arith

not_either : (known entries : List (List ℕ)) (i j : ℕ) → IsUnknown known entries i → IsAgain known entries j → ⊥
not_either known entries i j u a =
    let same = one_place known entries i j (unknown_wrong known entries i u) (again_wrong known entries j a) in
    let earlier = u.before.fresh a.earlier (omega (arith, same, a.is_earlier)) in
    u.unknown (subst (Has known) (same_entry same earlier.entry earlier.first.there) earlier.is_known)
  where
    same_entry : i ≡ j → (b : List ℕ) → slice_get entries a.earlier ≡ Some b → b ≡ u.entry
    same_entry is b at =
        let there : slice_get entries j ≡ Some u.entry = ap (λ k. slice_get entries k) (sym is) ∙ u.there in
        let both : Some u.entry ≡ Some a.entry = sym there ∙ a.there in
        let seen : Some b ≡ Some a.entry = sym at ∙ a.same in
        cc

few_wrong : (known entries : List (List ℕ)) (place : ℕ) → IsWrong known entries place → 4096 < length entries → ⊥
few_wrong known entries place wrong many = absurd (omega (arith, many, wrong.before.few))

pub one_refusal : (known entries : List (List ℕ)) (e f : TaskError) → Refuses known entries e → Refuses known entries f →
    (e ≡ f) ⊎ ((e ≡ OutOfMemory) ⊎ (f ≡ OutOfMemory))
one_refusal known entries OutOfMemory f r s = inr (inl refl)
one_refusal known entries (NoSuchAtom i) OutOfMemory r s = inr (inr refl)
one_refusal known entries (Twice i) OutOfMemory r s = inr (inr refl)
one_refusal known entries TooManyAtoms OutOfMemory r s = inr (inr refl)
one_refusal known entries (NoSuchAtom i) (NoSuchAtom j) r s =
    inl (ap (λ (k : ℕ). NoSuchAtom k) (one_place known entries i j (unknown_wrong known entries i r) (unknown_wrong known entries j s)))
one_refusal known entries (NoSuchAtom i) (Twice j) r s = absurd (not_either known entries i j r s)
one_refusal known entries (NoSuchAtom i) TooManyAtoms r s = absurd (few_wrong known entries i (unknown_wrong known entries i r) s)
one_refusal known entries (Twice i) (NoSuchAtom j) r s = absurd (not_either known entries j i s r)
one_refusal known entries (Twice i) (Twice j) r s =
    inl (ap (λ (k : ℕ). Twice k) (one_place known entries i j (again_wrong known entries i r) (again_wrong known entries j s)))
one_refusal known entries (Twice i) TooManyAtoms r s = absurd (few_wrong known entries i (again_wrong known entries i r) s)
one_refusal known entries TooManyAtoms (NoSuchAtom j) r s = absurd (few_wrong known entries j (unknown_wrong known entries j s) r)
one_refusal known entries TooManyAtoms (Twice j) r s = absurd (few_wrong known entries j (again_wrong known entries j s) r)
one_refusal known entries TooManyAtoms TooManyAtoms r s = inl refl
