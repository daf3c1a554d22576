-- Names and counts that attributes hold.
use Rattle.std.proofs.Common.{◌≡◌, ◌≤◌, ◌<◌, ◌^◌, ◌-◌, ◌==◌, ◌⊎◌, ◌&&◌, inl, inr, ℕ, zero, suc, Bool, true, false, List, [], ◌∷◌, Option, Some, None, codes, refl, sym, ◌∙◌, ap, subst, arith, max, if◌then◌else◌, nat_le}
use Rattle.std.specs.Prelude.{ℤ, pos, negsuc, neg_ℤ, ◌≤ℤ◌}
use Rattle.std.specs.List.{AllPass, list_all}
use Rattle.std.specs.Option.{option_map, option_map_or, option_and_then}
use Rattle.std.proofs.lemmas.Int.{ints}
use Rattle.std.proofs.lemmas.List.Sums.{AllPass-from_list_all, list_all-from_AllPass}
use Rattle.std.proofs.lemmas.Bool.{false≢true, leb-true, ltb-true}
use Rattle.std.specs.Char.{is_digit, digit_value}
use Rattle.std.specs.Str.{bytes_eq}
use Rattle.std.specs.Str.Parse.{IsNumeral, AllDigits, digits_value}
use Rattle.vtr_base.specs.Spans.{is_word_byte}
use Rattle.elem_text.specs.declared.elem.Attr.{Attr}
use Rattle.elem_text.specs.declared.elem.Elem.{Elem, out-Elem}
use Rattle.elem_attrs.specs.Attributes as said
use Rattle.elem_attrs.specs.Numbers.{number_up_to, signed_number, is_decimal, all_digits}
use Rattle.arch_build.specs.Said.{count_of, count_in, small_in, zero_or}
use Rattle.arch_rules.specs.declared.role.Role.{Role}
use Rattle.arch_types.specs.Names.{IsPlainName, IsUnbrokenName, is_plain}
use Rattle.arch_rules.specs.Numbers.{SpellsNumber}
use Rattle.arch_rules.specs.Elements.{value_of, attribute, text_or_none, text_at}
use Rattle.arch_rules.specs.Roles.{required}
use Rattle.arch_rules.specs.Rules.{MayName, IsUnread, IsFirstLacking}
use Rattle.arch_rules.specs.Walks.{IsFine}
use Rattle.arch_types.specs.Counts.{IsCount}

-- both words for the value of an attribute say the same
pub same_value : (attrs : List Attr) (name : List ℕ) → value_of attrs name ≡ said.value_of attrs name
same_value [] name = refl
same_value (a ∷ attrs) name = ap (λ o. if bytes_eq a.name name then Some a.value else o) (same_value attrs name)

text_or : (o : Option (List ℕ)) → text_or_none o ≡ option_map_or (λ (value : List ℕ). value) o []
text_or None = refl
text_or (Some text) = refl

pub same_text : (e : Elem) (name : List ℕ) → text_at e name ≡ said.attr_of e name
same_text e name = text_or (attribute e name) ∙ ap (λ o. option_map_or (λ (value : List ℕ). value) o []) (same_value (out-Elem e).attrs name)

-- Names

abbrev pub IsDecided : (List ℕ → Type 0) → Type 0
IsDecided P = (text : List ℕ) → P text ⊎ (P text → ⊥)

passes : (p : ℕ → Bool) → IsDecided (AllPass p)
passes p text = go (list_all p text) refl
  where
    go : (b : Bool) → list_all p text ≡ b → AllPass p text ⊎ (AllPass p text → ⊥)
    go true is = inl (AllPass-from_list_all p text is)
    go false is = inr (λ all. false≢true (sym is ∙ list_all-from_AllPass p text all))

pub plain_decided : IsDecided IsPlainName
plain_decided [] = inr (λ is. is.some refl)
plain_decided (b ∷ bs) = elim (passes is_plain (b ∷ bs)) [
  | inl all ↦ inl (record { some = λ none. absurd (cc); plain = all })
  | inr other ↦ inr (λ is. other is.plain)
]

pub dark_decided : IsDecided IsUnbrokenName
dark_decided [] = inr (λ is. is.some refl)
dark_decided (b ∷ bs) = elim (passes is_word_byte (b ∷ bs)) [
  | inl all ↦ inl (record { some = λ none. absurd (cc); dark = all })
  | inr other ↦ inr (λ is. other is.dark)
]

-- the name of an element that breaks no rule
pub named_by : (P : List ℕ → Type 0) → IsDecided P → (r : Role) (Taken : Type 0) (e : Elem) (rest : List (List ℕ)) → required r ≡ codes "name" ∷ rest →
    (IsUnread r e → ⊥) → ((text : List ℕ) → MayName r text → P text) → IsFine r Taken e → P (said.attr_of e (codes "name"))
named_by P decide r Taken e rest needs read may fine = subst P (same_text e (codes "name")) (go (attribute e (codes "name")) refl)
  where
    go : (o : Option (List ℕ)) → attribute e (codes "name") ≡ o → P (text_or_none o)
    go None lacks = absurd (fine.0.0.0.0.1 (codes "name") (read, subst (λ l. IsFirstLacking e l (codes "name")) (sym needs) (inl (lacks, refl))))
    go (Some text) is = elim (decide text) [ inl holds ↦ holds | inr other ↦ absurd (fine.0.0.0.1 (inl (text, is, λ m. other (may text m)))) ]

-- Numbers

-- what a number of an attribute says of its text
pub record IsSpelled (most : ℕ) (text : List ℕ) (n : ℕ) : Type 0 where
  pub spells : SpellsNumber text n
  pub fits : n ≤ most

some_same : (a b : ℕ) → Some a ≡ Some b → a ≡ b
some_same a b same = cc

digits_all : (text : List ℕ) → all_digits text ≡ true → AllDigits 10 text
digits_all [] is = tt
digits_all (b ∷ bs) is = go (is_digit b 10) refl is (λ rest. digits_all bs rest)
  where
    go : (t : Bool) → is_digit b 10 ≡ t → (t && all_digits bs) ≡ true → (all_digits bs ≡ true → AllDigits 10 bs) → AllDigits 10 (b ∷ bs)
    go true digit rest later = (ltb-true (digit_value b) 10 digit, later rest)
    go false digit rest later = absurd (false≢true rest)

numeral : (text : List ℕ) → is_decimal text ≡ true → IsNumeral 10 text
numeral [] is = absurd (false≢true is)
numeral (b ∷ bs) is = (omega arith, digits_all (b ∷ bs) is)

pub number_is : (most : ℕ) (text : List ℕ) (n : ℕ) → number_up_to most text ≡ Some n → IsSpelled most text n
number_is most text n is = go (is_decimal text) refl (nat_le (digits_value 10 text) most) refl is
  where
    go : (a : Bool) → is_decimal text ≡ a → (b : Bool) → nat_le (digits_value 10 text) most ≡ b →
        (if a && b then Some (digits_value 10 text) else None) ≡ Some n → IsSpelled most text n
    go true decimal true fits same =
        let value = some_same (digits_value 10 text) n same in
        record { spells = record { digits = numeral text decimal; value = value }; fits = subst (λ m. m ≤ most) value (leb-true (digits_value 10 text) most fits) }
    go true decimal false fits same = absurd (cc)
    go false decimal b fits same = absurd (cc)

-- a count is 1, or the number that the text spells
pub record IsCounted (text : List ℕ) (n : ℕ) : Type 0 where
  pub count : IsCount n
  pub is : (n ≡ 1) ⊎ SpellsNumber text n

at_least_one : (text : List ℕ) (n : ℕ) → IsSpelled 65536 text n → IsCounted text (max 1 n)
at_least_one text zero spelled = record { count = record { some = omega arith; few = omega arith }; is = inl refl }
at_least_one text (suc n) spelled =
    let same : max 1 (suc n) ≡ suc n = omega arith in
    let few = spelled.fits in
    record { count = record { some = omega arith; few = omega (arith, few) }; is = inr (subst (λ m. SpellsNumber text m) (sym same) spelled.spells) }

pub counted_is : (text : List ℕ) → IsCounted text (count_of text)
counted_is text = go (number_up_to 65536 text) refl
  where
    go : (o : Option ℕ) → number_up_to 65536 text ≡ o → IsCounted text (option_map_or (λ n. max 1 n) o 1)
    go None is = record { count = record { some = omega arith; few = omega arith }; is = inl refl }
    go (Some n) is = at_least_one text n (number_is 65536 text n is)

pub count_is : (attrs : List Attr) (name : List ℕ) → IsCount (count_in attrs name)
count_is attrs name = go (said.value_of attrs name)
  where
    go : (o : Option (List ℕ)) → IsCount (option_map_or count_of o 1)
    go None = record { some = omega arith; few = omega arith }
    go (Some text) = (counted_is text).count

-- a count that is more than `most` is spelled by the attribute
pub count_over : (e : Elem) (name : List ℕ) (most : ℕ) → 1 ≤ most → most < count_in (out-Elem e).attrs name →
    (text : List ℕ) × (attribute e name ≡ Some text) × (n : ℕ) × SpellsNumber text n × (most < n)
count_over e name most some over = go (attribute e name) refl (same_value (out-Elem e).attrs name)
  where
    go : (o : Option (List ℕ)) → attribute e name ≡ o → attribute e name ≡ said.value_of (out-Elem e).attrs name →
        (text : List ℕ) × (attribute e name ≡ Some text) × (n : ℕ) × SpellsNumber text n × (most < n)
    go None is same =
        let one : count_in (out-Elem e).attrs name ≡ 1 = ap (λ o. option_map_or count_of o 1) (sym same ∙ is) in
        absurd (omega (arith, one, over, some))
    go (Some text) is same =
        let counted : count_in (out-Elem e).attrs name ≡ count_of text = ap (λ o. option_map_or count_of o 1) (sym same ∙ is) in
        let more : most < count_of text = subst (λ n. most < n) counted over in
        elim ((counted_is text).is) [
          | inl one ↦ absurd (omega (arith, one, more, some))
          | inr spells ↦ (text, is, count_of text, spells, more)
        ]

pub small_is : (attrs : List Attr) (name : List ℕ) (n : ℕ) → small_in attrs name ≡ Some n → n ≤ 4294967295
small_is attrs name n = go (said.value_of attrs name)
  where
    go : (o : Option (List ℕ)) → option_and_then (number_up_to 4294967295) o ≡ Some n → n ≤ 4294967295
    go None is = absurd (cc)
    go (Some text) is = (number_is 4294967295 text n is).fits

pub zero_or_is : (attrs : List Attr) (name : List ℕ) → zero_or (small_in attrs name) ≤ 4294967295
zero_or_is attrs name = go (small_in attrs name) (small_is attrs name)
  where
    go : (o : Option ℕ) → ((n : ℕ) → o ≡ Some n → n ≤ 4294967295) → zero_or o ≤ 4294967295
    go None fits = omega arith
    go (Some n) fits = fits n refl

-- Numbers with a sign

-- a number of the range of two's complement; the largest is `top`
pub record IsBetween (top : ℕ) (z : ℤ) : Type 0 where
  pub least : negsuc top ≤ℤ z
  pub most : z ≤ℤ pos top

not_negative : (most n : ℕ) → n ≤ most → IsBetween most (pos n)
not_negative most n fits = record { least = omega (arith, ints, fits); most = omega (arith, ints, fits) }

negative : (most n : ℕ) → n ≤ suc most → IsBetween most (neg_ℤ (pos n))
negative most n fits = record { least = omega (arith, ints, fits); most = omega (arith, ints, fits) }

-- what a number of digits becomes
mapped : (most large : ℕ) (f : ℕ → ℤ) (text : List ℕ) (z : ℤ) → ((n : ℕ) → n ≤ large → IsBetween most (f n)) →
    option_map f (number_up_to large text) ≡ Some z → IsBetween most z
mapped most large f text z fits = go (number_up_to large text) refl
  where
    go : (o : Option ℕ) → number_up_to large text ≡ o → option_map f o ≡ Some z → IsBetween most z
    go None is same = absurd (cc)
    go (Some n) is same = let value : f n ≡ z = cc in subst (λ w. IsBetween most w) value (fits n (number_is large text n is).fits)

signed_by : (most large : ℕ) → large ≤ suc most → (text digits : List ℕ) (z : ℤ) (t : Bool) →
    (if t then option_map (λ n. neg_ℤ (pos n)) (number_up_to large digits) else option_map pos (number_up_to most text)) ≡ Some z → IsBetween most z
signed_by most large wide text digits z true is = mapped most large (λ n. neg_ℤ (pos n)) digits z (λ n fits. negative most n (omega (arith, fits, wide))) is
signed_by most large wide text digits z false is = mapped most most pos text z (not_negative most) is

spelled_is : (text : List ℕ) (z : ℤ) → signed_number text ≡ Some z → IsBetween (2 ^ 63 - 1) z
spelled_is [] z is = absurd (cc)
spelled_is (b ∷ bs) z is = signed_by (2 ^ 63 - 1) (2 ^ 63) (omega arith) (b ∷ bs) bs z (b == 45) is

pub signed_is : (attrs : List Attr) (name : List ℕ) (z : ℤ) → option_and_then signed_number (said.value_of attrs name) ≡ Some z → IsBetween (2 ^ 63 - 1) z
signed_is attrs name z = go (said.value_of attrs name)
  where
    go : (o : Option (List ℕ)) → option_and_then signed_number o ≡ Some z → IsBetween (2 ^ 63 - 1) z
    go None is = absurd (cc)
    go (Some text) is = spelled_is text z is
