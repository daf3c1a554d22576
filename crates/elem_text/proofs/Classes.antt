-- Which bytes belong to which class.
use Rattle.std.proofs.Common.{◌≡◌, ℕ, true, false, refl, arith, ⊎_elim, ap}
use Rattle.std.proofs.lemmas.Bool.Decides.{nat_tests}
use Rattle.elem_text.specs.Bytes.{is_white, is_letter, is_name_byte}
use Rattle.elem_text.specs.Grammar.{IsQuote}

pub white_61 : is_white 61 ≡ false
unfolding is_white
white_61 = refl

pub white_62 : is_white 62 ≡ false
unfolding is_white
white_62 = refl

pub white_47 : is_white 47 ≡ false
unfolding is_white
white_47 = refl

pub white_quote : (q : ℕ) → IsQuote q → is_white q ≡ false
unfolding is_white
white_quote q i = ⊎_elim (λ e. ap is_white e) (λ e. ap is_white e) i

pub white_letter : (b : ℕ) → is_letter b ≡ true → is_white b ≡ false
unfolding is_white is_letter
white_letter b e = grind (arith, nat_tests)

pub name_white : (b : ℕ) → is_white b ≡ true → is_name_byte b ≡ false
unfolding is_white is_letter is_name_byte
name_white b e = grind (arith, nat_tests)

pub name_61 : is_name_byte 61 ≡ false
unfolding is_name_byte is_letter
name_61 = refl

pub name_62 : is_name_byte 62 ≡ false
unfolding is_name_byte is_letter
name_62 = refl

pub name_47 : is_name_byte 47 ≡ false
unfolding is_name_byte is_letter
name_47 = refl

pub name_97 : is_name_byte 97 ≡ true
unfolding is_name_byte is_letter
name_97 = refl

pub letter_97 : is_letter 97 ≡ true
unfolding is_letter
letter_97 = refl

pub letter_62 : is_letter 62 ≡ false
unfolding is_letter
letter_62 = refl

pub letter_47 : is_letter 47 ≡ false
unfolding is_letter
letter_47 = refl

pub letter_33 : is_letter 33 ≡ false
unfolding is_letter
letter_33 = refl

pub letter_63 : is_letter 63 ≡ false
unfolding is_letter
letter_63 = refl

pub white_32 : is_white 32 ≡ true
unfolding is_white
white_32 = refl
