-- An attribute holds one number.
use Rattle.std.proofs.Common.{◌≡◌, ℕ, List, Some, sym, ap, ◌∙◌}
use Rattle.std.specs.Str.Parse.{digits_value}
use Rattle.elem_text.specs.declared.elem.Elem.{Elem}
use Rattle.elem_attrs.specs.Attributes.{HasAttribute}
use Rattle.elem_reading.specs.AttributeNumbers.{HasNumber}

pub one_value : (e : Elem) (name v w : List ℕ) → HasAttribute e name v → HasAttribute e name w → v ≡ w
one_value e name v w has_v has_w = let both : Some v ≡ Some w = sym has_v ∙ has_w in cc

pub one_number : (e : Elem) (name : List ℕ) (most m n : ℕ) → HasNumber e name most m → HasNumber e name most n → m ≡ n
one_number e name most m n has_m has_n =
    has_m.is ∙ ap (digits_value 10) (one_value e name has_m.value has_n.value has_m.held has_n.held) ∙ sym has_n.is
