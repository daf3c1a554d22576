-- Lists of words that are read one by one.
use Rattle.std.proofs.Common.{◌≡◌, ◌+◌, ◌-◌, ◌<◌, ◌≤◌, ◌⊎◌, ℕ, zero, suc, List, [], ◌∷◌, ◌++◌, Some, Bor, length, slice_get, slice_index_or, take, drop, refl, sym, ap, subst, ◌∙◌, inl, inr, arith, add-one}
use Rattle.std.specs.Option.{option_map}
use Rattle.std.proofs.lemmas.Option.{slice_get-map, slice_get-get_or, slice_get_within, get_or_from_slice_get}
use Rattle.std.proofs.lemmas.List.{take_all, take_more, take-map, drop_all, length-map, length-drop}
use Rattle.std.proofs.lemmas.Str.Parse.{digit_from_value}
use Rattle.vtr_base.specs.Lists.{Has}
use Rattle.list_laws.specs.Orders.{StandOnce}
use Rattle.list_laws.proofs.Members.{has_pushed}
use Rattle.task_types.specs.declared.task.Task.{Task}
use Rattle.tree_lines.specs.Words.{texts, AreEach, IsNumber, IsNeed, NamesAtom, AreCut}

-- the word that was read at a place
pub word_at : (words : List (Bor (List ℕ))) (k : ℕ) (d : Bor (List ℕ)) → k < length words → slice_get (texts words) k ≡ Some (slice_index_or words k d).now
word_at words k d inside =
    slice_get-map (λ (word : Bor (List ℕ)). word.now) words k ∙ ap (option_map (λ (word : Bor (List ℕ)). word.now)) (slice_get-get_or words k d inside)

pub many_words : (words : List (Bor (List ℕ))) → length (texts words) ≡ length words
many_words words = length-map words (λ (word : Bor (List ℕ)). word.now)

-- one word more
pub word_more : {X : Type 0} (Says : List ℕ → X → Type 0) (words : List (List ℕ)) (k : ℕ) (word : List ℕ) (xs new : List X) (x : X) →
    AreEach Says (take k words) xs → slice_get words k ≡ Some word → Says word x → new ≡ xs ++ x ∷ [] → AreEach Says (take (k + 1) words) new
word_more {X} Says words k word xs new x each at says added =
    subst (λ (ys : List X). AreEach Says (take (k + 1) words) ys) (sym added)
    (subst (λ (n : ℕ). AreEach Says (take n words) (xs ++ x ∷ [])) (sym (add-one k)) (by words k xs each at))
  where
    by : (words : List (List ℕ)) (k : ℕ) (xs : List X) → AreEach Says (take k words) xs → slice_get words k ≡ Some word → AreEach Says (take (suc k) words) (xs ++ x ∷ [])
    by [] k xs each at = absurd (cc)
    by (w ∷ ws) zero [] each at = let same : w ≡ word = cc in (subst (λ v. Says v x) (sym same) says, tt)
    by (w ∷ ws) zero (y ∷ ys) each at = absurd each
    by (w ∷ ws) (suc k) [] each at = absurd each
    by (w ∷ ws) (suc k) (y ∷ ys) each at = (each.0, by ws k ys each.1 at)

-- all words were read
-- a word that says nothing
pub word_lost : {X : Type 0} (Says : List ℕ → X → Type 0) (words : List (List ℕ)) (k : ℕ) (word : List ℕ) → slice_get words k ≡ Some word → ((x : X) → Says word x → ⊥) →
    (xs : List X) → AreEach Says words xs → ⊥
word_lost Says [] k word at none xs each = cc
word_lost Says (w ∷ ws) k word at none [] each = each
word_lost Says (w ∷ ws) zero word at none (x ∷ xs) each = let same : w ≡ word = cc in none x (subst (λ v. Says v x) same each.0)
word_lost Says (w ∷ ws) (suc k) word at none (x ∷ xs) each = word_lost Says ws k word at none xs each.1

-- the words say one list
pub one_each : {X : Type 0} (Says : List ℕ → X → Type 0) → ((word : List ℕ) (x y : X) → Says word x → Says word y → x ≡ y) → (words : List (List ℕ)) (xs ys : List X) →
    AreEach Says words xs → AreEach Says words ys → xs ≡ ys
one_each Says one [] [] [] a b = refl
one_each Says one [] [] (y ∷ ys) a b = absurd b
one_each Says one [] (x ∷ xs) ys a b = absurd a
one_each Says one (w ∷ ws) [] ys a b = absurd a
one_each Says one (w ∷ ws) (x ∷ xs) [] a b = absurd b
one_each Says one (w ∷ ws) (x ∷ xs) (y ∷ ys) a b =
    let here : x ≡ y = one w x y a.0 b.0 in
    let rest : xs ≡ ys = one_each Says one ws xs ys a.1 b.1 in
    cc

-- single words say one thing

pub one_number : (word : List ℕ) (m n : ℕ) → IsNumber word m → IsNumber word n → m ≡ n
one_number word m n a b = sym a.value ∙ b.value

pub one_need : (t : Task) (word : List ℕ) (m n : ℕ) → IsNeed t word m → IsNeed t word n → m ≡ n
one_need t word m n a b = one_number word m n a.number b.number

pub one_atom : (names : List (List ℕ)) → StandOnce names → (word : List ℕ) (m n : ℕ) → NamesAtom names word m → NamesAtom names word n → m ≡ n
one_atom names once word m n a b = once m n word a.is b.is

-- words that are cut at one that stands nowhere before

pub one_word_cut : (at : List ℕ) (a b x y : List (List ℕ)) → (Has a at → ⊥) → (Has b at → ⊥) → a ++ at ∷ x ≡ b ++ at ∷ y → (a ≡ b) × (x ≡ y)
one_word_cut at [] [] x y in_a in_b e = (refl, cc)
one_word_cut at [] (b ∷ bs) x y in_a in_b e = absurd (in_b (inl (cc)))
one_word_cut at (a ∷ es) [] x y in_a in_b e = absurd (in_a (inl (cc)))
one_word_cut at (a ∷ es) (b ∷ bs) x y in_a in_b e =
    let rest : es ++ at ∷ x ≡ bs ++ at ∷ y = cc in
    let k = one_word_cut at es bs x y (λ h. in_a (inr h)) (λ h. in_b (inr h)) rest in
    let here : a ≡ b = cc in
    (by a b es bs here k.0, k.1)
  where
    by : (a b : List ℕ) (es bs : List (List ℕ)) → a ≡ b → es ≡ bs → a ∷ es ≡ b ∷ bs
    by a b es bs e f = cc

slash_no_number : (n : ℕ) → IsNumber (47 ∷ []) n → ⊥
slash_no_number n is = let range = digit_from_value 47 is.digits.1.0 in absurd (omega (arith, range.0))

-- a slash is no need's number
pub no_slash : (t : Task) (words : List (List ℕ)) (needs : List ℕ) → AreEach (IsNeed t) words needs → Has words (47 ∷ []) → ⊥
no_slash t [] needs each has = has
no_slash t (w ∷ ws) [] each has = each
no_slash t (w ∷ ws) (n ∷ ns) each (inl is) = slash_no_number n (subst (λ v. IsNumber v n) (sym is) each.0.number)
no_slash t (w ∷ ws) (n ∷ ns) each (inr has) = no_slash t ws ns each.1 has

-- the last of some words, and those before
pub one_last : (a b : List (List ℕ)) (x y : List ℕ) → a ++ x ∷ [] ≡ b ++ y ∷ [] → (a ≡ b) × (x ≡ y)
one_last [] [] x y e = (refl, cc)
one_last [] (v ∷ []) x y e = absurd (cc)
one_last [] (v ∷ w ∷ b) x y e = absurd (cc)
one_last (u ∷ []) [] x y e = absurd (cc)
one_last (u ∷ w ∷ a) [] x y e = absurd (cc)
one_last (u ∷ a) (v ∷ b) x y e =
    let rest : a ++ x ∷ [] ≡ b ++ y ∷ [] = cc in
    let r = one_last a b x y rest in
    let here : u ≡ v = cc in
    (by here r.0, r.1)
  where
    by : u ≡ v → a ≡ b → u ∷ a ≡ v ∷ b
    by e f = cc

-- words around the one at a place
cut_words : (words : List (Bor (List ℕ))) (i : ℕ) (d : Bor (List ℕ)) → i < length words →
    texts words ≡ texts (take i words) ++ (slice_index_or words i d).now ∷ texts (drop (suc i) words)
cut_words [] i d inside = absurd (omega arith)
cut_words (w ∷ ws) zero d inside = refl
cut_words (w ∷ ws) (suc i) d inside = ap (λ l. w.now ∷ l) (cut_words ws i d (omega arith))

-- the first word that is this one
pub found_at : (words : List (Bor (List ℕ))) (i : ℕ) (at : List ℕ) (d : Bor (List ℕ)) → i < length words → (slice_index_or words i d).now ≡ at →
    (Has (take i (texts words)) at → ⊥) → AreCut (texts words) at (texts (take i words)) (texts (take (length words - (i + 1)) (drop (i + 1) words)))
found_at words i at d inside is before =
    let rest : take (length words - (i + 1)) (drop (i + 1) words) ≡ drop (suc i) words =
    take_all (length words - (i + 1)) (drop (i + 1) words) (omega (arith, length-drop (i + 1) words)) ∙ ap (λ n. drop n words) (add-one i) in
    record {
      spelled = cut_words words i d inside ∙ ap (λ w. texts (take i words) ++ w ∷ texts (drop (suc i) words)) is ∙ ap (λ l. texts (take i words) ++ at ∷ texts l) (sym rest);
      first = λ has. before (subst (λ l. Has l at) (sym (take-map (λ (word : Bor (List ℕ)). word.now) i words)) has);
    }

-- a word that is another
pub not_at : (words : List (Bor (List ℕ))) (i : ℕ) (at : List ℕ) (d : Bor (List ℕ)) → i < length words → ((slice_index_or words i d).now ≡ at → ⊥) →
    (Has (take i (texts words)) at → ⊥) → Has (take (i + 1) (texts words)) at → ⊥
not_at words i at d inside other before has =
    let word = (slice_index_or words i d).now in
    let there = word_at words i d inside in
    let more : take (i + 1) (texts words) ≡ take i (texts words) ++ word ∷ [] =
    take_more (texts words) i word (slice_get_within (texts words) i word there) ∙ ap (λ y. take i (texts words) ++ y ∷ []) (get_or_from_slice_get (texts words) i word word there) in
    by (has_pushed (take i (texts words)) word at (subst (λ l. Has l at) more has))
  where
    by : Has (take i (texts words)) at ⊎ (at ≡ (slice_index_or words i d).now) → ⊥
    by (inl front) = before front
    by (inr same) = other (sym same)

-- the last word, and those before
pub last_word : (words : List (Bor (List ℕ))) (d : Bor (List ℕ)) → 1 ≤ length words →
    texts words ≡ texts (take (length words - 1) words) ++ (slice_index_or words (length words - 1) d).now ∷ []
last_word words d some =
    let inside : length words - 1 < length words = omega arith in
    let past : length words ≤ suc (length words - 1) = omega arith in
    cut_words words (length words - 1) d inside ∙
    ap (λ l. texts (take (length words - 1) words) ++ (slice_index_or words (length words - 1) d).now ∷ texts l) (drop_all (suc (length words - 1)) words past)
